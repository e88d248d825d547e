-- What was written by the end of a run, and what its status tells.
use Rattle.std.specs.Prelude.{◌≡◌, ℕ, List, take, Bool, true, false, Option, IsTrue, ◌⊎◌}
use Rattle.std.specs.Io.KnownBytes.{Appends, IsAtEnd}
use Rattle.nm_base.specs.Faults.{IsRisen}
use Rattle.nm_base.specs.declared.outcome.Status.{Status}
use Rattle.nm_base.specs.declared.outcome.Status.TheVariants.{Done, Refused, Usage, ReadFault, WriteFault, NoMemory, BadSession, Cut, TooMuch, DoorFault}
use Rattle.nm_session.specs.Ending.{status_at}
use Rattle.nm_session.specs.Stream.{Outcome, outcome}

-- what is due of an input: what is written of it, and how that ends
pub record Due : Type 0 where
  pub replies : List ℕ
  pub ending : Status

-- .. of a session stream
abbrev pub due_of : Outcome → Due
due_of outcome = record { replies = outcome.replies; ending = status_at outcome.ending }

-- known bytes grow by some of the first of these, or by all of them
abbrev pub AppendsPrefix : Option (List ℕ) → Option (List ℕ) → List ℕ → Type 0
AppendsPrefix old new bytes = (n : ℕ) × Appends old new (take n bytes)

-- whether the status tells of the input
abbrev pub is_ending : Status → Bool
is_ending Done = true
is_ending Refused = true
is_ending BadSession = true
is_ending Cut = true
is_ending TooMuch = true
is_ending Usage = false
is_ending ReadFault = false
is_ending WriteFault = false
is_ending NoMemory = false
is_ending DoorFault = false

-- the status is the ending that is due, and all that is due was written
pub record EndsAs (due : Due) (status : Status) (old new : Option (List ℕ)) : Type 0 where
  pub ending : status ≡ due.ending
  pub replies : Appends old new due.replies

-- some of the first of what is due was written by any end, and all of it where the status tells of the input,
-- which is then the one that is due
pub record Answers (due : Due) (status : Status) (old new : Option (List ℕ)) : Type 0 where
  pub prefix : AppendsPrefix old new due.replies
  pub whole : IsTrue (is_ending status) → EndsAs due status old new

-- a session is due what comes of its stream
abbrev pub AnswersStream : List ℕ → Status → Option (List ℕ) → Option (List ℕ) → Type 0
AnswersStream stream status old new = Answers (due_of (outcome stream)) status old new

-- no call failed: the counts of the source's faults and of the sink's stayed
abbrev pub NoneFailed : ℕ → ℕ → ℕ → ℕ → Type 0
NoneFailed read_before read_after write_before write_after = (read_after ≡ read_before) × (write_after ≡ write_before)

-- a fault of the source or of the sink is told where its count rose, and there alone; a session that is cut has taken
-- all that the source had, of which `left` is left. A session tells of no refusal, of no word of a command line, and of
-- no listener
abbrev pub HasCause : Status → ℕ → ℕ → ℕ → ℕ → Option (List ℕ) → Type 0
HasCause ReadFault read_before read_after write_before write_after left = IsRisen read_before read_after × (write_after ≡ write_before)
HasCause WriteFault read_before read_after write_before write_after left = (read_after ≡ read_before) × IsRisen write_before write_after
HasCause Cut read_before read_after write_before write_after left = NoneFailed read_before read_after write_before write_after × IsAtEnd left
HasCause Done read_before read_after write_before write_after left = NoneFailed read_before read_after write_before write_after
HasCause NoMemory read_before read_after write_before write_after left = NoneFailed read_before read_after write_before write_after
HasCause BadSession read_before read_after write_before write_after left = NoneFailed read_before read_after write_before write_after
HasCause TooMuch read_before read_after write_before write_after left = NoneFailed read_before read_after write_before write_after
HasCause Refused read_before read_after write_before write_after left = ⊥
HasCause Usage read_before read_after write_before write_after left = ⊥
HasCause DoorFault read_before read_after write_before write_after left = ⊥

-- where no count rose, all that is due was written, or memory was wanting
abbrev pub EndsUnlessFaults : Due → Status → Option (List ℕ) → Option (List ℕ) → ℕ → ℕ → ℕ → ℕ → Type 0
EndsUnlessFaults due status old new read_before read_after write_before write_after =
    (IsRisen read_before read_after → ⊥) → (IsRisen write_before write_after → ⊥)
    → EndsAs due status old new ⊎ (status ≡ NoMemory)

-- .. for a session the replies to its stream
abbrev pub AnswersUnlessFaults : List ℕ → Status → Option (List ℕ) → Option (List ℕ) → ℕ → ℕ → ℕ → ℕ → Type 0
AnswersUnlessFaults stream status old new read_before read_after write_before write_after =
    EndsUnlessFaults (due_of (outcome stream)) status old new read_before read_after write_before write_after

-- nothing was read or written, and no call failed
pub record Untouched (old new : Option (List ℕ)) (before after : ℕ) : Type 0 where
  pub bytes : new ≡ old
  pub faults : after ≡ before
