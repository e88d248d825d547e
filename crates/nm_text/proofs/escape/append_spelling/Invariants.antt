use Rattle.std.proofs.Common.{◌≡◌, ◌++◌, length}
use Rattle.std.specs.List.{flat_map}
use Rattle.nm_text.specs.Escape.{spelt_in}
use Rattle.nm_text.proofs.escape.append_spelling.Given as goal

abbrev pub invariant-loop-rest : goal.invariant-loop-rest
invariant-loop-rest l = l.out.items ++ flat_map (spelt_in l.setting) l.rest ≡ l.initial.out.items ++ flat_map (spelt_in l.setting) l.text

abbrev pub decreases-loop-rest : goal.decreases-loop-rest
decreases-loop-rest l = length l.rest
