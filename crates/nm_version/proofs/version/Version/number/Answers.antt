use Rattle.std.proofs.Common.{subst}
use Rattle.nm_version.specs.After.{IsReached}
use Rattle.nm_version.proofs.version.Version.number.Goals as goal

pub returns-clause-reached : goal.returns-clause-reached
returns-clause-reached c = subst IsReached c.self.view_is c.self.invariant.reached
