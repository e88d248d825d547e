-- How a report ends, and what it leaves of its input.
use Rattle.std.specs.Prelude.{◌≡◌, ℕ, ◌<◌, ◌≤◌, List, length, Option, ◌⊎◌, Result, IfErr, OnOk}
use Rattle.std.specs.Io.KnownBytes.{Consumes, IsAtEnd}
use Rattle.nm_base.specs.Faults.{IsRisen}
use Rattle.nm_base.specs.declared.outcome.Status.{Status}
use Rattle.nm_base.specs.declared.outcome.Status.TheVariants.{Done, Refused, Usage, ReadFault, WriteFault, NoMemory, BadSession, Cut, TooMuch, DoorFault}
use Rattle.nm_model.specs.Limits.{longest_document}
use Rattle.nm_session.specs.Answered.{NoneFailed}
use Rattle.nm_cli.specs.declared.failure.Failure.{Failure}
use Rattle.nm_cli.specs.declared.failure.Failure.TheVariants as failures

-- a fault of the source or of the sink is told where its count rose, and there alone; a report tells nothing of commands,
-- of a command line or of a listener
abbrev pub ReportHasCause : Status → ℕ → ℕ → ℕ → ℕ → Type 0
ReportHasCause ReadFault read_before read_after write_before write_after = IsRisen read_before read_after × (write_after ≡ write_before)
ReportHasCause WriteFault read_before read_after write_before write_after = (read_after ≡ read_before) × IsRisen write_before write_after
ReportHasCause Done read_before read_after write_before write_after = NoneFailed read_before read_after write_before write_after
ReportHasCause Refused read_before read_after write_before write_after = NoneFailed read_before read_after write_before write_after
ReportHasCause NoMemory read_before read_after write_before write_after = NoneFailed read_before read_after write_before write_after
ReportHasCause Usage read_before read_after write_before write_after = ⊥
ReportHasCause BadSession read_before read_after write_before write_after = ⊥
ReportHasCause Cut read_before read_after write_before write_after = ⊥
ReportHasCause TooMuch read_before read_after write_before write_after = ⊥
ReportHasCause DoorFault read_before read_after write_before write_after = ⊥

-- the input was read to its end, or more of it than a document may have
pub record IsReadThrough (before after : Option (List ℕ)) : Type 0 where
  pub taken : List ℕ
  pub consumed : Consumes before after taken
  pub through : IsAtEnd after ⊎ (longest_document < length taken)

-- .. unless the source failed, or memory was wanting
abbrev pub ReadsThrough : Status → Option (List ℕ) → Option (List ℕ) → Type 0
ReadsThrough status before after = (status ≡ ReadFault → ⊥) → (status ≡ NoMemory → ⊥) → IsReadThrough before after

-- why an input was not read through: the count of its source's faults rose, or else it stayed
abbrev pub ReadFails : Failure → ℕ → ℕ → Type 0
ReadFails failures.ReadFault before after = IsRisen before after
ReadFails failures.NoMemory before after = after ≡ before
ReadFails failures.WriteFault before after = ⊥

-- the count of the source's faults never falls, and it stays but where a read failed
pub record CountsReads {T : Type 0} (before after : ℕ) (result : Result T Failure) : Type 0 where
  pub kept : before ≤ after
  pub fails : IfErr result (λ failure. ReadFails failure before after)
  pub stays : OnOk result (after ≡ before)

-- why a text was not written whole: the count of the sink's faults rose, or else it stayed
abbrev pub WriteFails : Failure → ℕ → ℕ → Type 0
WriteFails failures.WriteFault before after = IsRisen before after
WriteFails failures.NoMemory before after = after ≡ before
WriteFails failures.ReadFault before after = ⊥

-- the count of the sink's faults never falls, and it stays but where a write failed
pub record CountsWrites {T : Type 0} (before after : ℕ) (result : Result T Failure) : Type 0 where
  pub kept : before ≤ after
  pub fails : IfErr result (λ failure. WriteFails failure before after)
  pub stays : OnOk result (after ≡ before)
