use Rattle.nm_session.proofs.Logs as lemma
use Rattle.nm_session.proofs.laws.logs_open_again.Goals as goal

pub returns-clause-again : goal.returns-clause-again
returns-clause-again c = lemma.logs_open_again

pub returns-clause-same : goal.returns-clause-same
returns-clause-same c = lemma.logs_open_the_same
