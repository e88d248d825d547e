use Rattle.nm_piece.proofs.Cuttings as lemma
use Rattle.nm_piece.proofs.laws.one_piece_is_spelt.Goals as goal

pub returns : goal.returns
returns c = lemma.one_piece
