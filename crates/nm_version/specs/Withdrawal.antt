-- What a withdrawal leaves.
use Rattle.std.specs.Prelude.{◌≡◌, ◌≢◌, ℕ, ◌+◌, ◌==◌, List, length, map, Bool, false, not, Some, Ok}
use Rattle.std.specs.List.{AllByRecursion, filter}
use Rattle.nm_model.specs.declared.document.Difference.{Difference}
use Rattle.nm_model.specs.declared.document.Document.TheVariants as document
use Rattle.nm_stage.specs.Live.{project_of, without_filing}
use Rattle.nm_stage.specs.Project.{PlainProject}
use Rattle.nm_version.specs.After.{IsReached, after_all, commit_of}
use Rattle.nm_version.specs.Kept.{Kept, number_of}
use Rattle.nm_version.specs.Laws.{AnswersAlike, unnumbered}
use Rattle.nm_version.specs.declared.command.Command.{Command}
use Rattle.nm_version.specs.declared.command.Command.TheVariants.{File, Revise, Redate, Withdraw}

-- the same base, and the live projects without this one
pub record IsWithout (project : PlainProject) (before after : Kept) : Type 0 where
  pub base : after.base ≡ before.base
  pub bytes : after.bytes ≡ before.bytes
  pub live : after.live ≡ without_filing project.filing before.live

-- a withdrawal that is accepted names a live project, and takes it away
abbrev pub WithdrawalsTakeAway : Type 0
WithdrawalsTakeAway =
    (before after : Kept) (id : ℕ) → commit_of before (Withdraw id) ≡ Ok after
    → (project : PlainProject) × (project_of id before.live ≡ Some project) × IsWithout project before after

-- each of the commands is accepted
abbrev pub AreAccepted : Kept → List Command → Type 0
AreAccepted kept commands = number_of (after_all kept commands) ≡ number_of kept + length commands

-- whether the command names the project
abbrev pub names : ℕ → Command → Bool
names id (File day model bytes) = false
names id (Revise project model bytes) = project == id
names id (Redate project day) = project == id
names id (Withdraw project) = project == id

-- the commands that do not name the project
abbrev pub others_than : ℕ → List Command → List Command
others_than id commands = filter (λ command. not (names id command)) commands

-- the same base, and live projects that differ in filing numbers alone: all is answered alike but the log and the
-- numbers
pub record IsAsIf (kept other : Kept) : Type 0 where
  pub base : kept.base ≡ other.base
  pub live : map unnumbered kept.live ≡ map unnumbered other.live
  pub answers : AnswersAlike kept.base kept.live other.live

-- a project is filed, and withdrawn after other commands, of which some may revise or redate it: where those that do
-- not name it are accepted without it too, what is kept then is as if it had not been filed
abbrev pub WithdrawnAsIfNotFiled : Type 0
WithdrawnAsIfNotFiled =
    (before filed after : Kept) (day : List ℕ) (difference : Difference) (bytes : List ℕ) (since : List Command) → IsReached before
    → commit_of before (File day (document.Difference difference) bytes) ≡ Ok filed
    → AreAccepted filed since → AllByRecursion (λ command. command ≢ Withdraw difference.header.id) since
    → commit_of (after_all filed since) (Withdraw difference.header.id) ≡ Ok after
    → AreAccepted before (others_than difference.header.id since)
    → IsAsIf after (after_all before (others_than difference.header.id since))
