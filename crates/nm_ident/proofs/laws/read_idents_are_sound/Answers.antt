use Rattle.nm_ident.proofs.Idents as lemma
use Rattle.nm_ident.proofs.laws.read_idents_are_sound.Goals as goal

pub returns : goal.returns
returns c = lemma.read_idents_are_sound
