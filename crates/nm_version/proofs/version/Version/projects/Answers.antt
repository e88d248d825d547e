use Rattle.std.proofs.Common.{◌∙◌, List, Bor, map, ap}
use Rattle.std.proofs.lemmas.Result.{IfOk-weaker}
use Rattle.nm_stage.proofs.Lists.{map-map}
use Rattle.nm_stage.specs.Project.{PlainProject}
use Rattle.nm_version.specs.Kept.{Kept}
use Rattle.nm_version.specs.Projects.{row_of, rows_of}
use Rattle.nm_version.proofs.version.Version.projects.Goals as goal

pub returns : goal.returns
returns c =
    IfOk-weaker c.rows.result _ _
    (λ rows made.
    made
    ∙ map-map row_of (λ (one : Bor PlainProject). one.now) c.deref.result.now
    ∙ ap (λ (projects : List (Bor PlainProject)). map row_of (map (λ one. one.now) projects)) c.deref.ensures.value
    ∙ ap (map row_of) c.in_ok-projects.ensures
    ∙ ap (λ (k : Kept). rows_of k.live) c.self.view_is)
    c.rows.ensures
