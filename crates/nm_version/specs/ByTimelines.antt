-- Refusals and answers by the timelines that a version keeps.
use Rattle.std.specs.Prelude.{◌≡◌, List, ◌++◌, ℕ, ◌+◌, ◌==◌, Option, None, Some, Result, Ok, Err}
use Rattle.std.specs.List.{find, flat_map}
use Rattle.std.specs.Option.{option_and_then, option_map}
use Rattle.nm_day.specs.declared.key.Key.{Key}
use Rattle.nm_model.specs.declared.document.Full.{Full}
use Rattle.nm_stage.specs.Live.{project_of}
use Rattle.nm_stage.specs.Project.{PlainProject, PlainStep, model_of}
use Rattle.nm_statement.specs.declared.statement.Statement.{Statement}
use Rattle.nm_timeline.specs.Timeline.{PlainTimeline}
use Rattle.nm_timeline.specs.declared.mark.Mark.{Mark}
use Rattle.nm_timeline.specs.declared.part.Part.TheVariants.{Precondition, Reverse, Forward}
use Rattle.nm_version.specs.Changed.{live_after}
use Rattle.nm_version.specs.Command.{entry_of, project_named}
use Rattle.nm_version.specs.Edits.{added_by}
use Rattle.nm_version.specs.Kept.{Kept, number_of}
use Rattle.nm_version.specs.Replay.{first_break}
use Rattle.nm_version.specs.Timeline.{line_if}
use Rattle.nm_version.specs.Timelines.{timelines_over}
use Rattle.nm_version.specs.declared.command.Command.{Command}
use Rattle.nm_version.specs.declared.command.Entry.{Entry}
use Rattle.nm_version.specs.declared.line.Line.{Line}
use Rattle.nm_version.specs.declared.line.Line.TheVariants.{Base, Named}
use Rattle.nm_version.specs.declared.refusal.Cause.{Cause}
use Rattle.nm_version.specs.declared.refusal.Refusal.{Refusal}
use Rattle.nm_version.specs.declared.refusal.Refusal.TheVariants as refusal

-- the project that a command names, where it is live
abbrev pub own_project : Kept → Command → Option PlainProject
own_project kept command = option_and_then (λ id. project_of id kept.live) (project_named command)

-- the filing number of a project, or else the next one
abbrev pub filing_or : ℕ → Option PlainProject → ℕ
filing_or next None = next
filing_or next (Some project) = project.filing

-- the filing number of the project that a command changes: that of the one that it names, or the next one
abbrev pub filing_changed : Kept → Command → ℕ
filing_changed kept command = filing_or (number_of kept + 1) (own_project kept command)

-- what a command makes of the live projects, the steps that it adds, and what the log keeps of it
pub record IsChanged (kept : Kept) (command : Command) (live : List PlainProject) (added : List PlainStep) (entry : Entry) : Type 0 where
  pub live_is : live ≡ live_after kept command
  pub added_are : added ≡ added_by kept command
  pub entry_is : entry ≡ entry_of command

-- ---- the project of a key

abbrev pub model_or_none : Option PlainProject → ℕ
model_or_none None = 0
model_or_none (Some project) = model_of project

-- the current model of the project with this filing number
abbrev pub model_filed : List PlainProject → ℕ → ℕ
model_filed live filing = model_or_none (find (λ project. project.filing == filing) live)

-- the refusal of a cause at a key
abbrev pub refusal_told : List PlainProject → Key × Cause → Refusal
refusal_told live at = refusal.Step at.0.day (model_filed live at.0.filing) at.1

-- the refusal of a cause, where there is one
abbrev pub refusal_where : List PlainProject → Option (Key × Cause) → Option Refusal
refusal_where live at = option_map (refusal_told live) at

-- ---- an edit

abbrev pub unless_refused : Option Refusal → List (Statement × PlainTimeline) → Result (List (Statement × PlainTimeline)) Refusal
unless_refused None timelines = Ok timelines
unless_refused (Some refused) timelines = Err refused

-- the timelines of the base and the live projects, or why a step does not fit
abbrev pub timelines_due : Full → List PlainProject → Result (List (Statement × PlainTimeline)) Refusal
timelines_due base live = unless_refused (first_break base live) (timelines_over base live)

-- ---- lines

-- the lines of an entry: one for each part that it marks
abbrev pub entry_lines : List PlainProject → Statement → Key × Mark → List Line
entry_lines live statement entry =
    line_if entry.1.pre (Named entry.0.day (model_filed live entry.0.filing) Precondition statement)
    ++ line_if entry.1.rev (Named entry.0.day (model_filed live entry.0.filing) Reverse statement)
    ++ line_if entry.1.fwd (Named entry.0.day (model_filed live entry.0.filing) Forward statement)

-- the lines of a statement by its timeline: that of the base, and those of its entries
abbrev pub lines_told : List PlainProject → Statement × PlainTimeline → List Line
lines_told live pair = line_if pair.1.base (Base pair.0) ++ flat_map (entry_lines live pair.0) pair.1.entries
