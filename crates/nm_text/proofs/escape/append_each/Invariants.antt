use Rattle.std.proofs.Common.{◌≡◌, ◌++◌, take}
use Rattle.std.specs.List.{flat_map}
use Rattle.nm_text.specs.Escape.{spelt_in}
use Rattle.nm_text.proofs.escape.append_each.Given as goal

abbrev pub invariant-loop-byte : goal.invariant-loop-byte
invariant-loop-byte l = l.out.items ≡ l.initial.out.items ++ flat_map (spelt_in l.setting) (take l.byte-index l.bytes)
