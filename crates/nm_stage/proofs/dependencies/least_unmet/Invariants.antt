use Rattle.std.proofs.Common.{◌≡◌, take, not, nat_cmp}
use Rattle.std.specs.BTreeSet.{contains}
use Rattle.std.specs.List.{filter}
use Rattle.nm_stage.specs.Dependencies.{least_of}
use Rattle.nm_stage.proofs.dependencies.least_unmet.Given as goal

abbrev pub invariant-loop-id : goal.invariant-loop-id
invariant-loop-id l = l.least ≡ least_of (filter (λ id. not (contains nat_cmp l.reached id)) (take l.id-index l.dependencies))
