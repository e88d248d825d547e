use Rattle.std.proofs.Common.{◌≡◌, List, ℕ, drop, map}
use Rattle.nm_stage.specs.Dependencies.{HasIds, missing_from}
use Rattle.nm_stage.proofs.dependencies.first_missing.Given as goal

abbrev pub invariant-loop-project : goal.invariant-loop-project
invariant-loop-project l = (ids : List ℕ) × HasIds l.reached ids × (missing_from l.known (map (λ one. one.now) l.projects) ≡ missing_from ids (map (λ one. one.now) (drop l.project-index l.projects)))
