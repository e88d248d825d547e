use Rattle.std.proofs.Common.{sym, subst}
use Rattle.nm_statement.specs.Set.{IsRising}
use Rattle.nm_statement.proofs.Sets.{rising-minus_of}
use Rattle.nm_statement.proofs.set.Set.minus.Goals as goal

pub invariant_of-result : goal.invariant_of-result
invariant_of-result c =
    subst IsRising (sym c.in_ok-first_alone.ensures)
    (rising-minus_of c.deref.result.now c.deref-2.result.now (subst IsRising (sym c.deref.ensures.value) c.self.invariant))
