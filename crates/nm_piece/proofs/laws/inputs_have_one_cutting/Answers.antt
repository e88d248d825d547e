use Rattle.nm_piece.proofs.Cuttings as lemma
use Rattle.nm_piece.proofs.laws.inputs_have_one_cutting.Goals as goal

pub returns : goal.returns
returns c = lemma.one_cutting
