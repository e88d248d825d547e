use Rattle.std.proofs.Common.{◌≡◌, ◌++◌, take}
use Rattle.std.specs.Arc.{arc_value}
use Rattle.std.specs.List.{flat_map}
use Rattle.nm_version.specs.Listing.{entry_text}
use Rattle.nm_version.proofs.log.Log.append_to.Given as goal

abbrev pub invariant-loop-block : goal.invariant-loop-block
invariant-loop-block l = l.out.items ≡ l.initial.out.items ++ flat_map entry_text (flat_map arc_value (take l.block-index l.block-items))
