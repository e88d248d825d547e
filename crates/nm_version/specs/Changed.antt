-- The live projects after a command, without checks.
use Rattle.std.specs.Prelude.{ℕ, ◌+◌, ◌==◌, List, [], ◌∷◌, ◌++◌, not, Option, None, Some}
use Rattle.std.specs.List.{filter}
use Rattle.nm_model.specs.Header.{dependencies_of}
use Rattle.nm_model.specs.declared.document.Difference.{Difference}
use Rattle.nm_model.specs.declared.document.Document.{Document}
use Rattle.nm_model.specs.declared.document.Document.TheVariants as document
use Rattle.nm_stage.specs.Live.{project_of, with_project, without_filing}
use Rattle.nm_stage.specs.Project.{PlainProject, model_of}
use Rattle.nm_version.specs.Kept.{Kept, number_of}
use Rattle.nm_version.specs.declared.command.Command.{Command}
use Rattle.nm_version.specs.declared.command.Command.TheVariants.{File, Revise, Redate, Withdraw}

-- the project that a difference files by the command of this number
abbrev pub project_filed : ℕ → List ℕ → Difference → PlainProject
project_filed number day difference = record {
  filing = number;
  lineage = difference.header.id ∷ [];
  day = day;
  dependencies = dependencies_of difference.header;
  change = difference.change;
}

-- a difference in the place of the current one, on which it does not depend
abbrev pub project_revised : Difference → PlainProject → PlainProject
project_revised difference project = record project {
  lineage = project.lineage ++ difference.header.id ∷ [];
  dependencies = filter (λ id. not (id == model_of project)) (dependencies_of difference.header);
  change = difference.change;
}

abbrev pub project_redated : List ℕ → PlainProject → PlainProject
project_redated day project = record project { day = day }

-- a full model files and revises nothing
abbrev pub live_filed : ℕ → List ℕ → Document → List PlainProject → List PlainProject
live_filed number day (document.Full full) live = live
live_filed number day (document.Difference difference) live = with_project (project_filed number day difference) live

abbrev pub live_revised : Document → Option PlainProject → List PlainProject → List PlainProject
live_revised model None live = live
live_revised (document.Full full) (Some project) live = live
live_revised (document.Difference difference) (Some project) live = with_project (project_revised difference project) live

abbrev pub live_redated : List ℕ → Option PlainProject → List PlainProject → List PlainProject
live_redated day None live = live
live_redated day (Some project) live = with_project (project_redated day project) live

abbrev pub live_withdrawn : Option PlainProject → List PlainProject → List PlainProject
live_withdrawn None live = live
live_withdrawn (Some project) live = without_filing project.filing live

-- the live projects after a command
abbrev pub live_after : Kept → Command → List PlainProject
live_after kept (File day model bytes) = live_filed (number_of kept + 1) day model kept.live
live_after kept (Revise id model bytes) = live_revised model (project_of id kept.live) kept.live
live_after kept (Redate id day) = live_redated day (project_of id kept.live) kept.live
live_after kept (Withdraw id) = live_withdrawn (project_of id kept.live) kept.live
