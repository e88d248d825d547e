use Rattle.nm_reader.proofs.Documents as lemma
use Rattle.nm_reader.proofs.laws.pieces_have_no_fault.Goals as goal

pub returns-clause-faultless : goal.returns-clause-faultless
returns-clause-faultless c = lemma.faultless_pieces_are_documents

pub returns-clause-one : goal.returns-clause-one
returns-clause-one c = lemma.pieces_state_one_model
