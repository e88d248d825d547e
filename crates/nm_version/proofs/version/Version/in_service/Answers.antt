use Rattle.std.proofs.Common.{◌∙◌, sym, ap}
use Rattle.std.specs.List.{filter}
use Rattle.std.specs.Ordering.{is_le}
use Rattle.nm_day.specs.Day.{day_cmp}
use Rattle.nm_stage.specs.Project.{PlainStep, step_of}
use Rattle.nm_stage.specs.Steps.{in_order, steps_of}
use Rattle.nm_version.proofs.Lists.{filter-map}
use Rattle.nm_version.proofs.version.Version.in_service.Goals as goal

pub returns : goal.returns
returns c =
    let test = λ (step : PlainStep). is_le (day_cmp step.key.day c.args.day) in
    c.up_to.ensures
    ∙ ap (filter test) (c.in_ok-steps.ensures ∙ ap steps_of c.live_projects.ensures.projects)
    ∙ sym (filter-map test step_of (in_order c.args.self.now.live))
