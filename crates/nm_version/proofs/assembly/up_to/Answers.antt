use Rattle.std.proofs.Common.{rules}
use Rattle.std.proofs.lemmas.Fn.{filter_same}
use Rattle.std.specs.Ordering.{is_le}
use borrow.Author.Tests.{tests}
use Rattle.nm_day.specs.Day.{day_cmp}
use Rattle.nm_stage.specs.Project.{PlainStep}
use Rattle.nm_version.proofs.assembly.up_to.Goals as goal

pub returns : goal.returns
returns c =
    filter_same _ (λ (step : PlainStep). is_le (day_cmp step.key.day c.args.day)) _ (λ x b q k. (search (rules, tests), search (rules, tests))) _ _ c.retain.ensures.filtered
