use Rattle.std.proofs.Common.{◌∙◌, List, Bor, map, ap}
use Rattle.std.proofs.lemmas.Result.{IfOk-weaker}
use Rattle.nm_stage.specs.Project.{PlainProject, step_of}
use Rattle.nm_stage.proofs.Lists.{map-map}
use Rattle.nm_stage.proofs.live.Live.steps.Goals as goal

pub returns : goal.returns
returns c =
    IfOk-weaker c.steps_of.result _ _
    (λ steps made.
    made
    ∙ map-map step_of (λ (one : Bor PlainProject). one.now) c.deref.result.now
    ∙ ap (λ (projects : List (Bor PlainProject)). map step_of (map (λ one. one.now) projects)) c.deref.ensures.value
    ∙ ap (map step_of) c.in_ok-projects.ensures)
    c.steps_of.ensures
