use Rattle.nm_check.proofs.Named.{base_is_of_timelines}
use Rattle.nm_check.proofs.laws.base_is_of_timelines.Goals as goal

pub returns : goal.returns
returns c = base_is_of_timelines
