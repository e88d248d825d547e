use Rattle.std.proofs.Common.{◌∙◌, map, sym, ap}
use Rattle.nm_stage.proofs.Lists.{map-map}
use Rattle.nm_stage.specs.Project.{PlainStep, step_of}
use Rattle.nm_stage.specs.Steps.{steps_of}
use Rattle.nm_version.specs.Assembly.{assembly_header}
use Rattle.nm_version.specs.Replay.{in_service}
use Rattle.nm_version.proofs.ByTimelines.{days_are}
use Rattle.nm_version.proofs.version.Version.assemble.Goals as goal

pub returns : goal.returns
returns c =
    let kept = c.args.self.now in
    let steps = in_service kept.live c.args.day in
    let model = λ (step : PlainStep). step.model in
    let models = ap (map model) (c.deref.ensures.value ∙ c.in_ok-steps.ensures) ∙ sym (map-map model step_of steps) in
    let header = c.in_ok-header_of.ensures ∙ (λ i. assembly_header (c.header.ensures i) (models i) c.args.day) in
    let statements = c.in_ok-at.ensures kept.base.statements (steps_of kept.live) c.timelines.ensures ∙ sym (days_are kept.base kept.live c.args.day) in
    λ i. record { header = header i; statements = statements i }
