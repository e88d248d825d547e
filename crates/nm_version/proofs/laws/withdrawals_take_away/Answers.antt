use Rattle.nm_version.proofs.Withdrawals as lemma
use Rattle.nm_version.proofs.laws.withdrawals_take_away.Goals as goal

pub returns-clause-withdrawn : goal.returns-clause-withdrawn
returns-clause-withdrawn c = lemma.withdrawals_take_away

pub returns-clause-unfiled : goal.returns-clause-unfiled
returns-clause-unfiled c = lemma.withdrawn_as_if_not_filed
