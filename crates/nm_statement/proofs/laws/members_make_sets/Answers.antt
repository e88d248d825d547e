use Rattle.nm_statement.proofs.Sets as lemma
use Rattle.nm_statement.proofs.laws.members_make_sets.Goals as goal

pub returns-clause-same : goal.returns-clause-same
returns-clause-same c = lemma.members_make_sets

pub returns-clause-set : goal.returns-clause-set
returns-clause-set c = lemma.sets_of_members
