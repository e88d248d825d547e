-- The first break, by the first dependency that is not met and the first statement that does not fit.
use Rattle.std.specs.Prelude.{◌≡◌, ℕ, ◌==◌, List, Option, None, Some, if◌then◌else◌}
use Rattle.std.specs.List.{find}
use Rattle.std.specs.Option.{option_map}
use Rattle.std.specs.Ordering.{is_gt}
use Rattle.nm_check.specs.Breaks.{IsUnbroken, first_statement_break}
use Rattle.nm_check.specs.declared.breaks.Break.{Break}
use Rattle.nm_day.specs.Key.{key_cmp}
use Rattle.nm_day.specs.declared.key.Key.{Key}
use Rattle.nm_model.specs.declared.document.Full.{Full}
use Rattle.nm_stage.specs.Dependencies.{missing_of}
use Rattle.nm_stage.specs.Live.{IsLive}
use Rattle.nm_stage.specs.Project.{PlainProject, model_of}
use Rattle.nm_stage.specs.Steps.{steps_of}
use Rattle.nm_statement.specs.declared.statement.Statement.{Statement}
use Rattle.nm_timeline.specs.declared.part.Part.{Part}
use Rattle.nm_timeline.specs.declared.part.Part.TheVariants as part
use Rattle.nm_version.specs.After.{IsReached}
use Rattle.nm_version.specs.Kept.{Kept}
use Rattle.nm_version.specs.Replay.{first_break, known_before}
use Rattle.nm_version.specs.declared.refusal.Cause.{Cause}
use Rattle.nm_version.specs.declared.refusal.Cause.TheVariants.{Dependency, Precondition, Reverse, Forward}
use Rattle.nm_version.specs.declared.refusal.Refusal.{Refusal}
use Rattle.nm_version.specs.declared.refusal.Refusal.TheVariants as refusal

-- a statement of this part that does not fit
abbrev pub cause_by : Part → Statement → Cause
cause_by part.Precondition statement = Precondition statement
cause_by part.Reverse statement = Reverse statement
cause_by part.Forward statement = Forward statement

abbrev pub cause_of : Break → Cause
cause_of found = cause_by found.part found.statement

-- the lesser by key, and at one key the dependency, with its key
abbrev pub lesser_cause : Option (Key × ℕ) → Option Break → Option (Key × Cause)
lesser_cause None None = None
lesser_cause None (Some found) = Some (found.key, cause_of found)
lesser_cause (Some missing) None = Some (missing.0, Dependency missing.1)
lesser_cause (Some missing) (Some found) =
    if is_gt (key_cmp missing.0 found.key) then Some (found.key, cause_of found) else Some (missing.0, Dependency missing.1)

-- the refusal of a cause at a key, which names the current model of the project whose key it is
abbrev pub refusal_by : List PlainProject → Option (Key × Cause) → Option Refusal
refusal_by live None = None
refusal_by live (Some at) =
    option_map (λ project. refusal.Step at.0.day (model_of project) at.1) (find (λ project. project.filing == at.0.filing) live)

-- the first break of the live projects is the lesser of the first dependency that is not met and the first statement
-- that does not fit
abbrev pub FirstBreakIsTheLesser : Type 0
FirstBreakIsTheLesser =
    (base : Full) (live : List PlainProject) → IsLive live
    → first_break base live
    ≡ refusal_by live (lesser_cause (missing_of (known_before base.header) live) (first_statement_break base.statements (steps_of live)))

-- nothing of the live projects breaks: each dependency is met, and each statement fits
pub record Fits (base : Full) (live : List PlainProject) : Type 0 where
  pub met : missing_of (known_before base.header) live ≡ None
  pub unbroken : IsUnbroken base.statements (steps_of live)

-- what accepted commands have led to fits
abbrev pub WhatIsReachedFits : Type 0
WhatIsReachedFits = (kept : Kept) → IsReached kept → Fits kept.base kept.live
