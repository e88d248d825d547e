use Rattle.nm_check.proofs.Presence.{presence_is_by_timelines}
use Rattle.nm_check.proofs.Named.{statements_are_of_timelines}
use Rattle.nm_check.proofs.laws.presence_is_by_timelines.Goals as goal

pub returns-clause-present : goal.returns-clause-present
returns-clause-present c = presence_is_by_timelines

pub returns-clause-statements : goal.returns-clause-statements
returns-clause-statements c = statements_are_of_timelines
