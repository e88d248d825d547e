-- One command of a session: its reply, and what the session stands in after it.
use Rattle.std.specs.Prelude.{ℕ, List, [], length, Bool, true, false, Option, None, Some, Result, Ok, Err, codes}
use Rattle.nm_ident.specs.declared.ident.Ident.{Ident}
use Rattle.nm_model.specs.declared.document.Document.{Document}
use Rattle.nm_model.specs.declared.document.Document.TheVariants as document
use Rattle.nm_version.specs.After.{commit_of}
use Rattle.nm_version.specs.Assembly.{assembly}
use Rattle.nm_version.specs.Kept.{Kept, opened, number_of}
use Rattle.nm_version.specs.Listing.{log_of}
use Rattle.nm_version.specs.Objects.{object_at}
use Rattle.nm_version.specs.Projects.{rows_of}
use Rattle.nm_version.specs.Replay.{statements_at}
use Rattle.nm_version.specs.Timeline.{timeline_of}
use Rattle.nm_version.specs.declared.command.Command.{Command}
use Rattle.nm_version.specs.declared.command.Command.TheVariants as command
use Rattle.nm_version.specs.declared.refusal.Refusal.{Refusal}
use Rattle.nm_version.specs.declared.refusal.Refusal.TheVariants as refusal
use Rattle.nm_writer.specs.Canonical.{canonical_full}
use Rattle.nm_session.specs.Body.{body_of}
use Rattle.nm_session.specs.Reply.{numbered, document_reply, lines_reply, log_reply, projects_reply, statements_reply, summary_reply, refused_document_reply, refused_reply}
use Rattle.nm_session.specs.declared.body.Body.{Body}
use Rattle.nm_session.specs.declared.body.Body.TheVariants as body
use Rattle.nm_session.specs.declared.state.State.{State}
use Rattle.nm_session.specs.declared.state.State.TheVariants.{Empty, Store}
use Rattle.nm_session.specs.Word.{object_named}
use Rattle.nm_session.specs.PlainWord.{PlainWord, Base, File, Revise, Redate, Withdraw, Assemble, Object, Timeline, Projects, Log, Summary, End}

-- whether the line is a command here: `base` until a base is accepted, the others from then on, `end` always
abbrev pub allows : State → PlainWord → Bool
allows Empty (Base len) = true
allows Empty (File day len) = false
allows Empty (Revise project len) = false
allows Empty (Redate project day) = false
allows Empty (Withdraw project) = false
allows Empty (Assemble day) = false
allows Empty (Object day id) = false
allows Empty (Timeline id) = false
allows Empty Projects = false
allows Empty Log = false
allows Empty (Summary day) = false
allows Empty End = true
allows (Store kept) (Base len) = false
allows (Store kept) (File day len) = true
allows (Store kept) (Revise project len) = true
allows (Store kept) (Redate project day) = true
allows (Store kept) (Withdraw project) = true
allows (Store kept) (Assemble day) = true
allows (Store kept) (Object day id) = true
allows (Store kept) (Timeline id) = true
allows (Store kept) Projects = true
allows (Store kept) Log = true
allows (Store kept) (Summary day) = true
allows (Store kept) End = true

-- a reply, and what the session stands in after it
pub record Turn : Type 0 where
  pub reply : List ℕ
  pub state : State

abbrev pub stays : State → List ℕ → Turn
stays state reply = record { reply = reply; state = state }

-- what is no command here has no reply: `allows` refuses it
abbrev pub no_turn : State → Turn
no_turn state = stays state []

-- a base is a full model
abbrev pub with_base : Body → Turn
with_base (body.Document (document.Full base) bytes) =
    record { reply = numbered (codes "ok") 0; state = Store (opened base bytes) }
with_base (body.Document (document.Difference difference) bytes) = stays Empty (refused_reply refusal.Kind)
with_base (body.Fault fault) = stays Empty (refused_document_reply fault)
with_base body.Absent = no_turn Empty

-- an accepted command is answered with its number; a refused one changes nothing
abbrev pub committed : Kept → Result Kept Refusal → Turn
committed kept (Ok after) = record { reply = numbered (codes "ok") (number_of after); state = Store after }
committed kept (Err refusal) = stays (Store kept) (refused_reply refusal)

abbrev pub with_command : Kept → Command → Turn
with_command kept command = committed kept (commit_of kept command)

-- a command that brings a document
abbrev pub with_body : Kept → (Document → List ℕ → Command) → Body → Turn
with_body kept command_with (body.Document document bytes) = with_command kept (command_with document bytes)
with_body kept command_with (body.Fault fault) = stays (Store kept) (refused_document_reply fault)
with_body kept command_with body.Absent = no_turn (Store kept)

-- what is told of the object that a text names. A text in a command names one
abbrev pub told_of : (Ident → List ℕ) → Option Ident → List ℕ
told_of reply None = []
told_of reply (Some ident) = reply ident

-- the reply to a command with its body, and the state after it
abbrev pub turn_with : State → PlainWord → Body → Turn
turn_with Empty (Base len) body = with_base body
turn_with Empty (File day len) body = no_turn Empty
turn_with Empty (Revise project len) body = no_turn Empty
turn_with Empty (Redate project day) body = no_turn Empty
turn_with Empty (Withdraw project) body = no_turn Empty
turn_with Empty (Assemble day) body = no_turn Empty
turn_with Empty (Object day id) body = no_turn Empty
turn_with Empty (Timeline id) body = no_turn Empty
turn_with Empty Projects body = no_turn Empty
turn_with Empty Log body = no_turn Empty
turn_with Empty (Summary day) body = no_turn Empty
turn_with Empty End body = stays Empty (numbered (codes "end") 0)
turn_with (Store kept) (Base len) body = no_turn (Store kept)
turn_with (Store kept) (File day len) body = with_body kept (command.File day) body
turn_with (Store kept) (Revise project len) body = with_body kept (command.Revise project) body
turn_with (Store kept) (Redate project day) body = with_command kept (command.Redate project day)
turn_with (Store kept) (Withdraw project) body = with_command kept (command.Withdraw project)
turn_with (Store kept) (Assemble day) body =
    stays (Store kept) (document_reply (canonical_full (assembly kept.base kept.live day)))
turn_with (Store kept) (Object day id) body =
    stays (Store kept) (told_of (λ ident. statements_reply (object_at kept.base kept.live day ident)) (object_named id))
turn_with (Store kept) (Timeline id) body =
    stays (Store kept) (told_of (λ ident. lines_reply (timeline_of kept.base kept.live ident)) (object_named id))
turn_with (Store kept) Projects body = stays (Store kept) (projects_reply (rows_of kept.live))
turn_with (Store kept) Log body = stays (Store kept) (log_reply (log_of kept))
turn_with (Store kept) (Summary day) body =
    stays (Store kept)
    (summary_reply (number_of kept) (length kept.live) (length (statements_at kept.base kept.live day)))
turn_with (Store kept) End body = stays (Store kept) (numbered (codes "end") (number_of kept))

-- the same with the bytes of its document; a command without one leaves them out
abbrev pub turn_of : State → PlainWord → List ℕ → Turn
turn_of state word bytes = turn_with state word (body_of bytes)
