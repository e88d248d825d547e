-- The turns of a session, from what still comes and what was written before to what comes and was written after.
use Rattle.std.specs.Prelude.{◌≡◌, ℕ, ◌+◌, ◌<◌, ◌≤◌, List, length, Bool, Option, Some, codes, ◌⊎◌}
use Rattle.std.specs.Io.KnownBytes.{Appends}
use Rattle.nm_base.specs.Faults.{IsRisen}
use Rattle.nm_base.specs.Written.{AppendsFront}
use Rattle.nm_base.specs.declared.outcome.Status.{Status}
use Rattle.nm_base.specs.declared.outcome.Status.TheVariants as statuses
use Rattle.nm_writer.specs.declared.error.WriteError.{WriteError}
use Rattle.nm_writer.specs.declared.error.WriteError.TheVariants as write_error
use Rattle.nm_session.specs.Buffered.{Buffered}
use Rattle.nm_session.specs.Input.{coming, in_session, GivesBody, HaltTells}
use Rattle.nm_session.specs.Limits.{longest_session}
use Rattle.nm_session.specs.Reply.{numbered}
use Rattle.nm_session.specs.Stream.{Command, NotACommand, Short, next_in}
use Rattle.nm_session.specs.Turn.{turn_of, turn_with}
use Rattle.nm_session.specs.Word.{body_length, is_end}
use Rattle.nm_session.specs.declared.body.Body.{Body}
use Rattle.nm_session.specs.declared.halt.Halt.{Halt}
use Rattle.nm_session.specs.declared.halt.Halt.TheVariants.{BadLine, Cut, TooMuch, ReadFault, NoMemory}
use Rattle.nm_session.specs.declared.interruption.Interruption.{Interruption}
use Rattle.nm_session.specs.declared.interruption.Interruption.TheVariants as interruptions
use Rattle.nm_session.specs.declared.state.State.{State}
use Rattle.nm_session.specs.PlainWord.{PlainWord}

-- the session may go on: more was given, within its limit
pub record GoesOn (old new : Buffered) : Type 0 where
  pub more : old.given < new.given
  pub limit : new.given ≤ longest_session

-- the body of a command was taken, and is answered as its bytes are
pub record TakesBody (word : PlainWord) (old new : Buffered) (before after : Option (List ℕ)) (body : Body) : Type 0 where
  pub bytes : List ℕ
  pub given : GivesBody old new before after (body_length word) bytes
  pub same : (state : State) → turn_with state word body ≡ turn_of state word bytes

-- the next command was taken from what comes, with its body
pub record TakesCommand (state : State) (old new : Buffered) (bytes : List ℕ) (after : Option (List ℕ)) (word : PlainWord) (body : List ℕ) : Type 0 where
  pub rest : List ℕ
  pub known : coming new after ≡ Some rest
  pub size : old.given + length bytes ≡ new.given + length rest
  pub next : next_in state (in_session old bytes) ≡ Command word body (in_session new rest)

-- a command was taken, and this is the reply to it
pub record TakesTurn (before after : State) (old new : Buffered) (bytes : List ℕ) (left : Option (List ℕ)) (reply : List ℕ) (is_last : Bool) : Type 0 where
  pub word : PlainWord
  pub body : List ℕ
  pub taken : TakesCommand before old new bytes left word body
  pub state : after ≡ (turn_of before word body).state
  pub replied : reply ≡ (turn_of before word body).reply
  pub last : is_last ≡ is_end word

-- why no command was taken
abbrev pub NoTurnBy : Halt → State → Buffered → List ℕ → Type 0
NoTurnBy (BadLine at) state buffered bytes = (at ≡ buffered.given) × (next_in state (in_session buffered bytes) ≡ NotACommand)
NoTurnBy Cut state buffered bytes = (next_in state (in_session buffered bytes) ≡ Short) × (buffered.given + length bytes < longest_session)
NoTurnBy TooMuch state buffered bytes = (next_in state (in_session buffered bytes) ≡ Short) × (longest_session ≤ buffered.given + length bytes)
NoTurnBy ReadFault state buffered bytes = Unit {0}
NoTurnBy NoMemory state buffered bytes = Unit {0}

-- a command was taken and answered
pub record AnswersTurn (before after : State) (old new : Buffered) (bytes : List ℕ) (left : Option (List ℕ)) (written now : Option (List ℕ)) (is_last : Bool) : Type 0 where
  pub reply : List ℕ
  pub turn : TakesTurn before after old new bytes left reply is_last
  pub appended : Appends written now reply

-- the reply to a command was not written whole
pub record BreaksReply (state : State) (buffered : Buffered) (bytes : List ℕ) (written now : Option (List ℕ)) : Type 0 where
  pub word : PlainWord
  pub body : List ℕ
  pub rest : List ℕ
  pub next : next_in state (in_session buffered bytes) ≡ Command word body rest
  pub front : AppendsFront written now (turn_of state word body).reply

-- why no command was taken and answered
abbrev pub NoAnswerBy : Interruption → State → Buffered → List ℕ → Option (List ℕ) → Option (List ℕ) → Type 0
NoAnswerBy (interruptions.Halted halt) state buffered bytes written now = NoTurnBy halt state buffered bytes × (now ≡ written)
NoAnswerBy interruptions.WriteFault state buffered bytes written now = BreaksReply state buffered bytes written now

-- what that tells of the counts of faults, and of what is left
abbrev pub InterruptionTells : Interruption → ℕ → ℕ → ℕ → ℕ → Option (List ℕ) → Type 0
InterruptionTells (interruptions.Halted halt) read_before read_after write_before write_after left =
    HaltTells halt read_before read_after left × (write_after ≡ write_before)
InterruptionTells interruptions.WriteFault read_before read_after write_before write_after left =
    (read_after ≡ read_before) × IsRisen write_before write_after

-- the status where a line was not written whole
abbrev pub unwritten_status : WriteError → Status
unwritten_status write_error.Fault = statuses.WriteFault
unwritten_status write_error.NoMemory = statuses.NoMemory

-- why the line that names the offset of a bad one was not written whole
abbrev pub LeavesBadLine : WriteError → ℕ → Option (List ℕ) → Option (List ℕ) → ℕ → ℕ → Type 0
LeavesBadLine write_error.Fault at written now before after = AppendsFront written now (numbered (codes "badline") at) × IsRisen before after
LeavesBadLine write_error.NoMemory at written now before after = (now ≡ written) × (after ≡ before)

-- how a session ends at a bad line: the line that names its offset was written, or it was not
abbrev pub NamesBadLine : ℕ → Status → Option (List ℕ) → Option (List ℕ) → ℕ → ℕ → Type 0
NamesBadLine at status written now before after =
    ((status ≡ statuses.BadSession) × Appends written now (numbered (codes "badline") at) × (after ≡ before))
    ⊎ (error : WriteError) × (status ≡ unwritten_status error) × LeavesBadLine error at written now before after

-- the session ends so, nothing more is written, and no write fails
abbrev pub StopsAs : Status → Status → Option (List ℕ) → Option (List ℕ) → ℕ → ℕ → Type 0
StopsAs ending status written now before after = (status ≡ ending) × (now ≡ written) × (after ≡ before)

-- how a session ends that takes nothing more
abbrev pub EndsBy : Halt → Status → Option (List ℕ) → Option (List ℕ) → ℕ → ℕ → Type 0
EndsBy (BadLine at) status written now before after = NamesBadLine at status written now before after
EndsBy Cut status written now before after = StopsAs statuses.Cut status written now before after
EndsBy TooMuch status written now before after = StopsAs statuses.TooMuch status written now before after
EndsBy ReadFault status written now before after = StopsAs statuses.ReadFault status written now before after
EndsBy NoMemory status written now before after = StopsAs statuses.NoMemory status written now before after

-- .. or that is interrupted
abbrev pub EndsWith : Interruption → Status → Option (List ℕ) → Option (List ℕ) → ℕ → ℕ → Type 0
EndsWith (interruptions.Halted halt) status written now before after = EndsBy halt status written now before after
EndsWith interruptions.WriteFault status written now before after = StopsAs statuses.WriteFault status written now before after
