use Rattle.std.proofs.Common.{◌≡◌}
use Rattle.nm_gen.specs.Models as spec
use Rattle.nm_gen.proofs.models.substations.Given as goal

abbrev pub invariant-loop-number : goal.invariant-loop-number
invariant-loop-number l = l.statements.items ≡ spec.substations l.number
