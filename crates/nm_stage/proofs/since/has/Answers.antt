use Rattle.nm_stage.proofs.Lists.{has_id-is}
use Rattle.nm_stage.proofs.since.has.Goals as goal

pub returns : goal.returns
returns c = has_id-is c.args.ids.now c.args.id c.contains.result c.contains.ensures
