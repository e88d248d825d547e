-- When a command is refused: the rows in their order, of which the first that holds is the refusal.
use Rattle.std.specs.Prelude.{ℕ, ◌+◌, ◌==◌, List, length, Bool, true, false, not, ◌||◌, nat_le, nat_lt, Option, None, Some}
use Rattle.std.specs.Option.{option_or, option_and_then}
use Rattle.nm_base.specs.declared.outcome.Limit.TheVariants.{L4, L5, L6}
use Rattle.nm_model.specs.declared.document.Document.{Document}
use Rattle.nm_model.specs.declared.document.Document.TheVariants as document
use Rattle.nm_model.specs.declared.header.Header.{Header}
use Rattle.nm_stage.specs.Live.{holds, project_of}
use Rattle.nm_stage.specs.Project.{PlainProject, has_id, model_of}
use Rattle.nm_version.specs.Changed.{live_after}
use Rattle.nm_version.specs.Command.{document_brought, header_of, project_named}
use Rattle.nm_version.specs.Kept.{Kept, number_of, size_of}
use Rattle.nm_version.specs.Limits.{most_steps, most_commits, largest_store}
use Rattle.nm_version.specs.Replay.{first_break}
use Rattle.nm_version.specs.declared.command.Command.{Command}
use Rattle.nm_version.specs.declared.command.Command.TheVariants.{File, Revise, Redate, Withdraw}
use Rattle.nm_version.specs.declared.refusal.Refusal.{Refusal}
use Rattle.nm_version.specs.declared.refusal.Refusal.TheVariants as refusal

-- the refusal where the test holds
abbrev pub refused_where : Bool → Refusal → Option Refusal
refused_where true refused = Some refused
refused_where false refused = None

-- ---- 1: a full model changes nothing

abbrev pub kind_of : Document → Option Refusal
kind_of (document.Full full) = Some refusal.Kind
kind_of (document.Difference difference) = None

abbrev pub kind_refusal : Command → Option Refusal
kind_refusal command = option_and_then kind_of (document_brought command)

-- ---- 2: the project that is named has to be live

abbrev pub unknown_of : ℕ → Option PlainProject → Option Refusal
unknown_of id None = Some (refusal.Unknown id)
unknown_of id (Some project) = None

abbrev pub unknown_refusal : Kept → Command → Option Refusal
unknown_refusal kept command = option_and_then (λ id. unknown_of id (project_of id kept.live)) (project_named command)

-- ---- 3: a revision supersedes the project's current model

abbrev pub superseding_of : Header → Option PlainProject → Option Refusal
superseding_of header None = None
superseding_of header (Some project) =
    refused_where (not (has_id header.supersedes (model_of project))) (refusal.NotSuperseding (model_of project))

abbrev pub superseding_refusal : Kept → Command → Option Refusal
superseding_refusal kept (File day model bytes) = None
superseding_refusal kept (Revise id model bytes) = superseding_of (header_of model) (project_of id kept.live)
superseding_refusal kept (Redate id day) = None
superseding_refusal kept (Withdraw id) = None

-- ---- 4: the id of a document is new

-- whether the id is the base's or stands in a live lineage
abbrev pub is_in_use : Kept → ℕ → Bool
is_in_use kept id = (kept.base.header.id == id) || holds kept.live id

abbrev pub use_of : Kept → ℕ → Option Refusal
use_of kept id = refused_where (is_in_use kept id) (refusal.InUse id)

abbrev pub use_refusal : Kept → Command → Option Refusal
use_refusal kept command = option_and_then (λ model. use_of kept (header_of model).id) (document_brought command)

-- ---- 5: the limits of steps, of commands, and of bytes

abbrev pub steps_refusal : Kept → Command → Option Refusal
steps_refusal kept (File day model bytes) = refused_where (nat_le most_steps (length kept.live)) (refusal.Limit L4)
steps_refusal kept (Revise id model bytes) = None
steps_refusal kept (Redate id day) = None
steps_refusal kept (Withdraw id) = None

abbrev pub commits_refusal : Kept → Option Refusal
commits_refusal kept = refused_where (nat_le most_commits (number_of kept)) (refusal.Limit L5)

abbrev pub bytes_of : Kept → List ℕ → Option Refusal
bytes_of kept bytes = refused_where (nat_lt largest_store (size_of kept + length bytes)) (refusal.Limit L6)

abbrev pub bytes_refusal : Kept → Command → Option Refusal
bytes_refusal kept (File day model bytes) = bytes_of kept bytes
bytes_refusal kept (Revise id model bytes) = bytes_of kept bytes
bytes_refusal kept (Redate id day) = None
bytes_refusal kept (Withdraw id) = None

-- ---- the first of them, and 6: a break of the changed list

infixl 5 ◌otherwise◌
abbrev pub ◌otherwise◌ : Option Refusal → Option Refusal → Option Refusal
first otherwise other = option_or first other

-- the first refusal that no replay is needed for
unfoldable pub early_refusal : Kept → Command → Option Refusal
early_refusal kept command =
    kind_refusal command
    otherwise unknown_refusal kept command
    otherwise superseding_refusal kept command
    otherwise use_refusal kept command
    otherwise steps_refusal kept command
    otherwise commits_refusal kept
    otherwise bytes_refusal kept command

unfoldable pub refusal_of : Kept → Command → Option Refusal
refusal_of kept command = early_refusal kept command otherwise first_break kept.base (live_after kept command)

-- which refusals are want of memory
abbrev pub wants_memory : Refusal → Bool
wants_memory refusal.Kind = false
wants_memory (refusal.Unknown id) = false
wants_memory (refusal.NotSuperseding id) = false
wants_memory (refusal.InUse id) = false
wants_memory (refusal.Limit limit) = false
wants_memory (refusal.Step day model cause) = false
wants_memory refusal.NoMemory = true
