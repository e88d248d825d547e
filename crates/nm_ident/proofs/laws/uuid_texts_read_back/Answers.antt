use Rattle.nm_ident.proofs.UuidTexts as lemma
use Rattle.nm_ident.proofs.laws.uuid_texts_read_back.Goals as goal

pub returns : goal.returns
returns c = lemma.uuid_texts_read_back
