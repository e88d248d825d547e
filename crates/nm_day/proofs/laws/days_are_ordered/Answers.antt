use Rattle.nm_day.proofs.Orders as lemma
use Rattle.nm_day.proofs.laws.days_are_ordered.Goals as goal

pub returns-clause-apart : goal.returns-clause-apart
returns-clause-apart c = lemma.day_order_tells_apart

pub returns-clause-texts : goal.returns-clause-texts
returns-clause-texts c = lemma.days_are_in_text_order
