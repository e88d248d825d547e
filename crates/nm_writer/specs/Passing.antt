-- Bytes that are given to a sink part by part.
use Rattle.std.specs.Prelude.{◌≡◌, ℕ, ◌≤◌, List, ◌++◌, Option, Result, IfErr, OnOk}
use Rattle.std.specs.Io.KnownBytes.{Appends}
use Rattle.nm_base.specs.Faults.{IsRisen}
use Rattle.nm_writer.specs.declared.error.WriteError.{WriteError}
use Rattle.nm_writer.specs.declared.error.WriteError.TheVariants as write_error

-- of the bytes the sink was given all but those that are left at their end
pub record Leaves (old new : Option (List ℕ)) (bytes left : List ℕ) : Type 0 where
  pub given : List ℕ
  pub appended : Appends old new given
  pub whole : given ++ left ≡ bytes

-- the sink was given some of the first bytes, or none
abbrev pub LeavesSome : Option (List ℕ) → Option (List ℕ) → List ℕ → Type 0
LeavesSome old new bytes = (left : List ℕ) × Leaves old new bytes left

-- the count rose where the error is a fault of the sink, and stays with the other
abbrev pub HasWriteCause : WriteError → ℕ → ℕ → Type 0
HasWriteCause write_error.Fault before after = IsRisen before after
HasWriteCause write_error.NoMemory before after = after ≡ before

-- the sink's count never falls, and it stays but where a fault comes
pub record CountsWriteFaults {T : Type 0} (before after : ℕ) (result : Result T WriteError) : Type 0 where
  pub kept : before ≤ after
  pub cause : IfErr result (λ error. HasWriteCause error before after)
  pub stays : OnOk result (after ≡ before)
