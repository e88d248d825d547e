use Rattle.std.proofs.Common.{◌≡◌, ◌++◌, take}
use Rattle.std.specs.List.{flat_map}
use Rattle.nm_version.specs.Listing.{entry_text}
use Rattle.nm_version.specs.Log.{behind}
use Rattle.nm_version.proofs.listing.append_block.Given as goal

abbrev pub invariant-loop-entry : goal.invariant-loop-entry
invariant-loop-entry l = l.out.items ≡ l.initial.out.items ++ flat_map entry_text (behind (take l.entry-index l.entry-items))
