use Rattle.nm_version.proofs.Determined as lemma
use Rattle.nm_version.proofs.laws.logs_determine_what_is_kept.Goals as goal

pub returns : goal.returns
returns c = lemma.logs_determine_what_is_kept
