use Rattle.nm_version.proofs.Lesser as lemma
use Rattle.nm_version.proofs.laws.first_break_is_the_lesser.Goals as goal

pub returns : goal.returns
returns c = lemma.first_break_is_the_lesser
