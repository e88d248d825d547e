use Rattle.std.proofs.Common.{◌∙◌, length, sym, ap}
use Rattle.std.proofs.lemmas.Result.{IfOk-weaker}
use Rattle.nm_stage.specs.Steps.{steps_of}
use Rattle.nm_version.proofs.ByTimelines.{days_are}
use Rattle.nm_version.proofs.version.Version.count.Goals as goal

pub returns : goal.returns
returns c =
    let kept = c.args.self.now in
    IfOk-weaker c.count.result _ _
    (λ count told. told kept.base.statements (steps_of kept.live) c.timelines.ensures ∙ ap length (sym (days_are kept.base kept.live c.args.day)))
    c.count.ensures
