use Rattle.std.proofs.Common.{List, ℕ, ◌++◌, take}
use Rattle.nm_stage.specs.Dependencies.{HasIds}
use Rattle.nm_stage.proofs.dependencies.add_ids.Given as goal

abbrev pub invariant-loop-id : goal.invariant-loop-id
invariant-loop-id l = (known : List ℕ) → HasIds l.initial.reached known → HasIds l.reached (known ++ take l.id-index l.ids)
