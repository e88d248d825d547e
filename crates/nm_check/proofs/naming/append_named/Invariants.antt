use Rattle.std.proofs.Common.{◌≡◌, ◌++◌, take}
use Rattle.nm_check.specs.Timelines.{named_by_steps}
use Rattle.nm_tree.specs.Span.{values_of}
use Rattle.nm_check.proofs.naming.append_named.Given as goal

abbrev pub invariant-loop-step : goal.invariant-loop-step
invariant-loop-step l = values_of l.statements.items ≡ values_of l.initial.statements.items ++ named_by_steps (take l.step-index l.steps)
