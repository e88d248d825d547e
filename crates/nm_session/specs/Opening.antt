-- What comes of a stream from which a store is opened.
use Rattle.std.specs.Prelude.{◌≡◌, ℕ, List, Bool, true, false, not, Option, Result, Ok, Err, ◌⊎◌}
use Rattle.nm_base.specs.declared.outcome.Status.{Status}
use Rattle.nm_base.specs.declared.outcome.Status.TheVariants.{Done, Refused, Usage, ReadFault, WriteFault, NoMemory, BadSession, Cut, TooMuch, DoorFault}
use Rattle.nm_version.specs.Kept.{Kept}
use Rattle.nm_session.specs.Answered.{is_ending}
use Rattle.nm_session.specs.Ending.{Ending}
use Rattle.nm_session.specs.Ending as endings
use Rattle.nm_session.specs.Halts.{place_of, status_of}
use Rattle.nm_session.specs.Input.{HaltTells}
use Rattle.nm_session.specs.Stream.{Outcome, outcome}
use Rattle.nm_session.specs.declared.halt.Halt.{Halt}
use Rattle.nm_session.specs.declared.halt.Halt.TheVariants as halts
use Rattle.nm_session.specs.declared.start.OpeningError.{OpeningError}
use Rattle.nm_session.specs.declared.state.State.{State}
use Rattle.nm_session.specs.declared.state.State.TheVariants.{Empty, Store}

abbrev pub error_by : Status → ℕ → OpeningError
error_by status at = record { status = status; at = at }

-- the error where nothing more is taken of a stream
abbrev pub error_of : Halt → OpeningError
error_of halt = error_by (status_of halt) (place_of halt)

-- .. and where it was read to its end
abbrev pub no_base : OpeningError
no_base = error_by Refused 0

-- behind the last command: the store, where a base was accepted
abbrev pub store_in : State → Result Kept OpeningError
store_in (Store kept) = Ok kept
store_in Empty = Err no_base

-- at each ending
abbrev pub opened_by : Ending → State → Result Kept OpeningError
opened_by endings.Ended state = store_in state
opened_by (endings.AtBadLine at) state = Err (error_by BadSession at)
opened_by endings.Cut state = Err (error_by Cut 0)
opened_by endings.TooMuch state = Err (error_by TooMuch 0)

abbrev pub opened_from : Outcome → Result Kept OpeningError
opened_from outcome = opened_by outcome.ending outcome.state

-- the store that a stream gives, or why it gives none
abbrev pub opening_of : List ℕ → Result Kept OpeningError
opening_of stream = opened_from (outcome stream)

-- whether the error says nothing of the stream: its source failed, or memory was wanting
abbrev pub tells_no_ending : OpeningError → Bool
tells_no_ending error = not (is_ending error.status)

abbrev pub is_no_memory : Status → Bool
is_no_memory NoMemory = true
is_no_memory Done = false
is_no_memory Refused = false
is_no_memory Usage = false
is_no_memory ReadFault = false
is_no_memory WriteFault = false
is_no_memory BadSession = false
is_no_memory Cut = false
is_no_memory TooMuch = false
is_no_memory DoorFault = false

abbrev pub wants_memory : OpeningError → Bool
wants_memory error = is_no_memory error.status

-- an error is that no base was accepted, of a source that did not fail, or it tells why nothing more was taken of the
-- stream. Then a fault is told where the count of the source's faults rose, and there alone, and a stream that is cut
-- was taken whole
abbrev pub HasCause : OpeningError → ℕ → ℕ → Option (List ℕ) → Type 0
HasCause error before after left =
    ((error ≡ no_base) × (after ≡ before)) ⊎ (halt : Halt) × (error ≡ error_of halt) × HaltTells halt before after left

-- the stream was read to its end, and this is what the session stands in then
pub record IsDoneIn (due : Outcome) (state : State) : Type 0 where
  pub ending : due.ending ≡ endings.Ended
  pub stands : due.state ≡ state

-- a halt that tells of the stream tells its ending
abbrev pub TellsEnding : Halt → Ending → Type 0
TellsEnding (halts.BadLine at) ending = ending ≡ endings.AtBadLine at
TellsEnding halts.Cut ending = ending ≡ endings.Cut
TellsEnding halts.TooMuch ending = ending ≡ endings.TooMuch
TellsEnding halts.ReadFault ending = Unit {0}
TellsEnding halts.NoMemory ending = Unit {0}
