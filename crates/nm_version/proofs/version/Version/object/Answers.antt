use Rattle.std.proofs.Common.{◌∙◌, sym, ap}
use Rattle.std.proofs.lemmas.Result.{IfOk-weaker}
use Rattle.std.specs.List.{filter}
use Rattle.nm_check.specs.Subject.{is_about}
use Rattle.nm_stage.specs.Steps.{steps_of}
use Rattle.nm_version.proofs.ByTimelines.{days_are}
use Rattle.nm_version.proofs.version.Version.object.Goals as goal

pub returns : goal.returns
returns c =
    let kept = c.args.self.now in
    IfOk-weaker c.object.result _ _
    (λ set told. told kept.base.statements (steps_of kept.live) c.timelines.ensures ∙ ap (filter (is_about c.args.subject.now)) (sym (days_are kept.base kept.live c.args.day)))
    c.object.ensures
