use Rattle.std.proofs.Common.{◌≡◌, take}
use Rattle.nm_check.specs.Timelines.{entries_of}
use Rattle.nm_check.proofs.naming.entries_of.Given as goal

abbrev pub invariant-loop-step : goal.invariant-loop-step
invariant-loop-step l = l.entries.items ≡ entries_of (take l.step-index l.steps) l.statement
