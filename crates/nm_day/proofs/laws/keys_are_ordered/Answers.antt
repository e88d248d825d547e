use Rattle.nm_day.proofs.Orders as lemma
use Rattle.nm_day.proofs.laws.keys_are_ordered.Goals as goal

pub returns-clause-total : goal.returns-clause-total
returns-clause-total c = lemma.key_cmp-total

pub returns-clause-apart : goal.returns-clause-apart
returns-clause-apart c = lemma.key_order_tells_apart
