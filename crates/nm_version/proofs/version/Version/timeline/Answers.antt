use Rattle.std.proofs.Common.{◌∙◌}
use Rattle.std.proofs.lemmas.Result.{IfOk-weaker}
use Rattle.std.specs.List.{flat_map}
use Rattle.nm_version.specs.ByTimelines.{lines_told}
use Rattle.nm_version.proofs.ByTimelines.{lines_are}
use Rattle.nm_version.proofs.version.Version.timeline.Goals as goal

pub returns : goal.returns
returns c =
    let kept = c.args.self.now in
    IfOk-weaker c.lines_of.result _ _
    (λ lines made. made
    ∙ (λ i. flat_map (lines_told (c.live_projects.ensures.projects i)) ((c.as_slice.ensures ∙ c.in_ok-subject.ensures) i))
    ∙ lines_are kept.base kept.live c.live_projects.ensures.live c.args.ident.now c.timelines.result.now c.timelines.ensures.timelines_are)
    c.lines_of.ensures
