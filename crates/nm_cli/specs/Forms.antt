-- What each form writes of its input, how it ends, and what it reads.
use Rattle.std.specs.Prelude.{◌≡◌, ℕ, List, Option, IfSome, ◌⊎◌}
use Rattle.nm_base.specs.Faults.{IsRisen}
use Rattle.nm_base.specs.declared.outcome.Status.{Status}
use Rattle.nm_base.specs.declared.outcome.Status.TheVariants.{Done, Refused, Usage, ReadFault, WriteFault, NoMemory, BadSession, Cut, TooMuch, DoorFault}
use Rattle.nm_reader.specs.Read.{read_due}
use Rattle.nm_gen.specs.Stream.{stream_of}
use Rattle.nm_session.specs.Answered.{Answers, Due, EndsAs, EndsUnlessFaults, HasCause, Untouched, due_of}
use Rattle.nm_cli.specs.Report.{reported}
use Rattle.nm_cli.specs.Reported.{ReadsThrough, ReportHasCause}
use Rattle.nm_session.specs.Stream.{outcome}
use Rattle.nm_cli.specs.declared.form.Form.{Form}
use Rattle.nm_cli.specs.declared.form.Form.TheVariants.{Session, Canon, Check, Gen}
use Rattle.nm_cli.specs.declared.report.Report.TheVariants.{Canonical, Counts}

-- a generated session is written whatever the input is
abbrev pub generated : ℕ → ℕ → Due
generated projects seed = record { replies = stream_of projects seed; ending = Done }

-- what is due of this input
abbrev pub due_by : Form → List ℕ → Due
due_by Session input = due_of (outcome input)
due_by Canon input = reported Canonical (read_due input)
due_by Check input = reported Counts (read_due input)
due_by (Gen projects seed) input = generated projects seed

-- the form is answered as is due on its input, where that is told; a generated session is due whatever the input is
abbrev pub FormAnswers : Form → Option (List ℕ) → Status → Option (List ℕ) → Option (List ℕ) → Type 0
FormAnswers Session left status old new = IfSome left (λ input. Answers (due_by Session input) status old new)
FormAnswers Canon left status old new = IfSome left (λ input. Answers (due_by Canon input) status old new)
FormAnswers Check left status old new = IfSome left (λ input. Answers (due_by Check input) status old new)
FormAnswers (Gen projects seed) left status old new = Answers (generated projects seed) status old new

-- where the count of the sink's faults did not rise, all that is due was written, or memory was wanting
abbrev pub EndsUnlessWriteFault : Due → Status → Option (List ℕ) → Option (List ℕ) → ℕ → ℕ → Type 0
EndsUnlessWriteFault due status old new before after = (IsRisen before after → ⊥) → EndsAs due status old new ⊎ (status ≡ NoMemory)

-- where no count rose, the form is answered whole, or memory was wanting; what is generated rests on no count of the source
abbrev pub FormCompletes : Form → Option (List ℕ) → Status → Option (List ℕ) → Option (List ℕ) → ℕ → ℕ → ℕ → ℕ → Type 0
FormCompletes Session left status old new read_before read_after write_before write_after =
    IfSome left (λ input. EndsUnlessFaults (due_by Session input) status old new read_before read_after write_before write_after)
FormCompletes Canon left status old new read_before read_after write_before write_after =
    IfSome left (λ input. EndsUnlessFaults (due_by Canon input) status old new read_before read_after write_before write_after)
FormCompletes Check left status old new read_before read_after write_before write_after =
    IfSome left (λ input. EndsUnlessFaults (due_by Check input) status old new read_before read_after write_before write_after)
FormCompletes (Gen projects seed) left status old new read_before read_after write_before write_after =
    EndsUnlessWriteFault (generated projects seed) status old new write_before write_after

-- a fault of the sink is told where its count rose, and there alone; what reads nothing tells of nothing else
abbrev pub WriteHasCause : Status → ℕ → ℕ → Type 0
WriteHasCause WriteFault before after = IsRisen before after
WriteHasCause Done before after = after ≡ before
WriteHasCause NoMemory before after = after ≡ before
WriteHasCause ReadFault before after = ⊥
WriteHasCause Refused before after = ⊥
WriteHasCause Usage before after = ⊥
WriteHasCause BadSession before after = ⊥
WriteHasCause Cut before after = ⊥
WriteHasCause TooMuch before after = ⊥
WriteHasCause DoorFault before after = ⊥

-- which statuses a form can have, and what they tell of the counts, and of what the input has left
abbrev pub FormHasCause : Form → Status → ℕ → ℕ → ℕ → ℕ → Option (List ℕ) → Type 0
FormHasCause Session status read_before read_after write_before write_after left = HasCause status read_before read_after write_before write_after left
FormHasCause Canon status read_before read_after write_before write_after left = ReportHasCause status read_before read_after write_before write_after
FormHasCause Check status read_before read_after write_before write_after left = ReportHasCause status read_before read_after write_before write_after
FormHasCause (Gen projects seed) status read_before read_after write_before write_after left = WriteHasCause status write_before write_after

-- a session reads up to its end, a report all of a document, and what is generated rests on no input
abbrev pub FormReads : Form → Status → Option (List ℕ) → Option (List ℕ) → ℕ → ℕ → Type 0
FormReads Session status left now before after = Unit {0}
FormReads Canon status left now before after = ReadsThrough status left now
FormReads Check status left now before after = ReadsThrough status left now
FormReads (Gen projects seed) status left now before after = Untouched left now before after
