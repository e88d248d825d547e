use Rattle.std.proofs.Common.{◌≡◌, take}
use Rattle.nm_check.specs.Edit.{keys_naming}
use Rattle.nm_check.proofs.naming.keys_of.Given as goal

abbrev pub invariant-loop-step : goal.invariant-loop-step
invariant-loop-step l = l.keys.items ≡ keys_naming (take l.step-index l.steps) l.statement
