use Rattle.nm_version.proofs.Fitting as lemma
use Rattle.nm_version.proofs.laws.what_is_reached_fits.Goals as goal

pub returns : goal.returns
returns c = lemma.what_is_reached_fits
