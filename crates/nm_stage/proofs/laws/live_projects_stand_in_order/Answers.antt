use Rattle.nm_stage.proofs.Orders as lemma
use Rattle.nm_stage.proofs.laws.live_projects_stand_in_order.Goals as goal

pub returns : goal.returns
returns c = lemma.live_projects_stand_in_order
