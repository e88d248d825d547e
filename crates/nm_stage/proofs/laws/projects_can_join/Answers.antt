use Rattle.nm_stage.proofs.Joins as lemma
use Rattle.nm_stage.proofs.laws.projects_can_join.Goals as goal

pub returns-clause-own : goal.returns-clause-own
returns-clause-own c = lemma.joins_with_own_ids

pub returns-clause-filed : goal.returns-clause-filed
returns-clause-filed c = lemma.joins_with_new_id

pub returns-clause-again : goal.returns-clause-again
returns-clause-again c = lemma.joins_again

pub returns-clause-revised : goal.returns-clause-revised
returns-clause-revised c = lemma.joins_revised
