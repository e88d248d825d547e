use Rattle.std.proofs.Common.{◌≡◌, take, map}
use Rattle.nm_stage.specs.Project.{step_of}
use Rattle.nm_stage.proofs.order.steps_of.Given as goal

abbrev pub invariant-loop-project : goal.invariant-loop-project
invariant-loop-project l = l.steps.items ≡ map (λ one. step_of one.now) (take l.project-index l.projects)
