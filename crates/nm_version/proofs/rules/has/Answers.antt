use Rattle.nm_stage.proofs.Lists.{has_id-is}
use Rattle.nm_version.proofs.rules.has.Goals as goal

pub returns : goal.returns
returns c = has_id-is c.args.ids.now c.args.id c.contains.result c.contains.ensures
