-- What a command takes away from the steps of the live projects, and adds to them.
use Rattle.std.specs.Prelude.{◌≡◌, ℕ, ◌+◌, List, [], ◌∷◌, Option, None, Some}
use Rattle.nm_check.specs.Edit.{CanEdit, edited_steps}
use Rattle.nm_check.specs.Replay.{AreSteps}
use Rattle.nm_model.specs.declared.document.Document.{Document}
use Rattle.nm_model.specs.declared.document.Document.TheVariants as document
use Rattle.nm_stage.specs.Live.{project_of}
use Rattle.nm_stage.specs.Project.{PlainProject, PlainStep, step_of}
use Rattle.nm_stage.specs.Steps.{steps_of}
use Rattle.nm_version.specs.After.{IsReached}
use Rattle.nm_version.specs.Changed.{live_after, project_filed, project_redated, project_revised}
use Rattle.nm_version.specs.Command.{IsSpelt}
use Rattle.nm_version.specs.Kept.{Kept, number_of}
use Rattle.nm_version.specs.Refusal.{early_refusal}
use Rattle.nm_version.specs.declared.command.Command.{Command}
use Rattle.nm_version.specs.declared.command.Command.TheVariants.{File, Revise, Redate, Withdraw}

-- the step of the project that a command names
abbrev pub own_step : Option PlainProject → List PlainStep
own_step None = []
own_step (Some project) = step_of project ∷ []

abbrev pub step_filed : ℕ → List ℕ → Document → List PlainStep
step_filed number day (document.Full full) = []
step_filed number day (document.Difference difference) = step_of (project_filed number day difference) ∷ []

abbrev pub step_revised : Document → Option PlainProject → List PlainStep
step_revised model None = []
step_revised (document.Full full) (Some project) = []
step_revised (document.Difference difference) (Some project) = step_of (project_revised difference project) ∷ []

abbrev pub step_redated : List ℕ → Option PlainProject → List PlainStep
step_redated day None = []
step_redated day (Some project) = step_of (project_redated day project) ∷ []

-- the steps that a command takes away ..
abbrev pub taken_by : Kept → Command → List PlainStep
taken_by kept (File day model bytes) = []
taken_by kept (Revise id model bytes) = own_step (project_of id kept.live)
taken_by kept (Redate id day) = own_step (project_of id kept.live)
taken_by kept (Withdraw id) = own_step (project_of id kept.live)

-- .. and those that it adds
abbrev pub added_by : Kept → Command → List PlainStep
added_by kept (File day model bytes) = step_filed (number_of kept + 1) day model
added_by kept (Revise id model bytes) = step_revised model (project_of id kept.live)
added_by kept (Redate id day) = step_redated day (project_of id kept.live)
added_by kept (Withdraw id) = []

-- the steps after are those before, less the ones that are taken away and with the ones that are added
pub record IsEdit (remove add before after : List PlainStep) : Type 0 where
  pub steps : AreSteps before
  pub can : CanEdit remove add before
  pub edited : after ≡ edited_steps remove add before

-- a command that no rule before the replay refuses edits the steps so
abbrev pub CommandsEditSteps : Type 0
CommandsEditSteps =
    (kept : Kept) (command : Command) → IsReached kept → IsSpelt command → early_refusal kept command ≡ None
    → IsEdit (taken_by kept command) (added_by kept command) (steps_of kept.live) (steps_of (live_after kept command))
