use Rattle.nm_version.proofs.Filings as lemma
use Rattle.nm_version.proofs.laws.filed_projects_come_last.Goals as goal

pub returns : goal.returns
returns c = lemma.filed_projects_come_last
