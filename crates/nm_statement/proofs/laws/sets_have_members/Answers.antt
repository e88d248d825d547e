use Rattle.nm_statement.proofs.Sets as lemma
use Rattle.nm_statement.proofs.laws.sets_have_members.Goals as goal

pub returns-clause-contains : goal.returns-clause-contains
returns-clause-contains c = lemma.has_is_contains

pub returns-clause-have : goal.returns-clause-have
returns-clause-have c = lemma.sets_have

pub returns-clause-rise : goal.returns-clause-rise
returns-clause-rise c = lemma.sets_rise
