use Rattle.std.proofs.Common.{◌≡◌, take, map}
use Rattle.nm_stage.specs.Listed.{dependent}
use Rattle.nm_stage.proofs.additions.dependents.Given as goal

abbrev pub invariant-loop-id : goal.invariant-loop-id
invariant-loop-id l = l.made.items ≡ map (dependent l.key) (take l.id-index l.ids)
