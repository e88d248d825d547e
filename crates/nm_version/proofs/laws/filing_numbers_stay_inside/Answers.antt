use Rattle.nm_version.proofs.Unnumbered as lemma
use Rattle.nm_version.proofs.laws.filing_numbers_stay_inside.Goals as goal

pub returns : goal.returns
returns c = lemma.filing_numbers_stay_inside
