use Rattle.nm_canon.proofs.Again.{bytes_tell_models_apart, read_back}
use Rattle.nm_canon.proofs.laws.canonical_documents_are_read_back.Goals as goal

pub returns : goal.returns
returns c = record { again = read_back; apart = bytes_tell_models_apart }
