use Rattle.nm_reader.proofs.Inputs as lemma
use Rattle.nm_reader.proofs.KeptModels as kept
use Rattle.nm_reader.proofs.Readings as readings
use Rattle.nm_reader.proofs.laws.documents_have_no_fault.Goals as goal

pub returns-clause-faultless : goal.returns-clause-faultless
returns-clause-faultless c = lemma.documents_have_no_fault

pub returns-clause-one : goal.returns-clause-one
returns-clause-one c = lemma.inputs_state_one_model

pub returns-clause-told : goal.returns-clause-told
returns-clause-told c = lemma.models_are_told

pub returns-clause-read : goal.returns-clause-read
returns-clause-read c = readings.documents_are_read

pub returns-clause-kept : goal.returns-clause-kept
returns-clause-kept c = kept.stated_models_are_kept
