use Rattle.nm_version.proofs.Edited as lemma
use Rattle.nm_version.proofs.laws.commands_edit_steps.Goals as goal

pub returns : goal.returns
returns c = lemma.commands_edit_steps
