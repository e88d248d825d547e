use Rattle.nm_version.proofs.Logs.{closed}
use Rattle.nm_version.proofs.log.settled.Goals as goal

pub returns : goal.returns
returns c = closed _ _ _ _ c.in_ok-new.field-0 c.in_ok-push.ensures.items c.in_ok-new.ensures.ok c.empty.ensures
