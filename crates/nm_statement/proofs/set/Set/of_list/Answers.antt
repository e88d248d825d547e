use Rattle.std.proofs.Common.{sym, subst}
use Rattle.nm_statement.specs.Set.{IsRising}
use Rattle.nm_statement.proofs.Sets.{made_of, rising-set_of}
use Rattle.nm_statement.proofs.set.Set.of_list.Goals as goal

pub invariant_of-result : goal.invariant_of-result
invariant_of-result c = subst IsRising (sym (made_of _ _ _ c.sort_unstable.ensures.permutation c.sort_unstable.ensures.sorted c.dedup.ensures.filtered)) (rising-set_of c.args.list.items)

pub returns-clause-set : goal.returns-clause-set
returns-clause-set c = made_of _ _ _ c.sort_unstable.ensures.permutation c.sort_unstable.ensures.sorted c.dedup.ensures.filtered
