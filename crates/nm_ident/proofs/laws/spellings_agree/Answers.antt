use Rattle.nm_ident.proofs.Idents as lemma
use Rattle.nm_ident.proofs.laws.spellings_agree.Goals as goal

pub returns : goal.returns
returns c = lemma.spellings_agree
