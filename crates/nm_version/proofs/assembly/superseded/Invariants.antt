use Rattle.std.proofs.Common.{◌≡◌, ◌∷◌, take, map}
use Rattle.nm_version.proofs.assembly.superseded.Given as goal

abbrev pub invariant-loop-step : goal.invariant-loop-step
invariant-loop-step l = l.ids.items ≡ l.base ∷ map (λ step. step.model) (take l.step-index l.steps)
