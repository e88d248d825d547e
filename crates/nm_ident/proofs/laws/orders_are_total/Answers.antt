use Rattle.nm_ident.proofs.Orders as lemma
use Rattle.nm_ident.proofs.laws.orders_are_total.Goals as goal

pub returns-clause-total : goal.returns-clause-total
returns-clause-total c = lemma.orders_are_total

pub returns-clause-apart : goal.returns-clause-apart
returns-clause-apart c = lemma.orders_tell_apart
