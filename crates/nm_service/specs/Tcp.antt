-- Connections over TCP, of which counts alone are known.
use Rattle.std.specs.Prelude.{ℕ, None}
use Rattle.nm_base.specs.Beside.{Beside}

-- how many reads and how many writes of a connection failed
pub record Failures : Type 0 where
  pub reads : ℕ
  pub writes : ℕ

-- a connection on which no call failed yet
abbrev pub no_failures : Failures
no_failures = record { reads = 0; writes = 0 }

-- beside either side lies the other side's count
abbrev pub writes_beside : Failures → Beside
writes_beside failures = record { bytes = None; faults = failures.writes; room = 0 }

abbrev pub reads_beside : Failures → Beside
reads_beside failures = record { bytes = None; faults = failures.reads; room = 0 }

-- how many connections a listener's door has handed out and taken back, and how many calls of `accept` failed
pub record Passage : Type 0 where
  pub handed : ℕ
  pub closed : ℕ
  pub faults : ℕ

-- a door before its first call
abbrev pub no_passage : Passage
no_passage = record { handed = 0; closed = 0; faults = 0 }
