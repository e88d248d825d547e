use Rattle.std.proofs.Common.{◌≡◌, take, map}
use Rattle.nm_version.specs.Assembly.{assembly_name}
use Rattle.nm_version.proofs.assembly.name_of.Given as goal

abbrev pub invariant-loop-step : goal.invariant-loop-step
invariant-loop-step l = l.name.items ≡ assembly_name l.fn.day (map (λ step. step.model) (take l.step-index l.steps))
