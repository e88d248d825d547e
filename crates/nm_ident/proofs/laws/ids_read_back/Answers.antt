use Rattle.nm_ident.proofs.Idents as lemma
use Rattle.nm_ident.proofs.laws.ids_read_back.Goals as goal

pub returns : goal.returns
returns c = lemma.ids_read_back
