use Rattle.nm_piece.proofs.Cuttings as lemma
use Rattle.nm_piece.proofs.laws.reading_is_exact.Goals as goal

pub returns : goal.returns
returns c = lemma.exact
