-- How a stream ends: behind its last command, at a line that is no command, within a line or a document, or where a
-- session may take no more bytes.
use Rattle.std.specs.Prelude.{ℕ}
use Rattle.nm_base.specs.declared.outcome.Status.{Status}
use Rattle.nm_base.specs.declared.outcome.Status.TheVariants as statuses

pub data Ending : Type 0 where
  Ended : Ending
  AtBadLine : ℕ → Ending
  Cut : Ending
  TooMuch : Ending

-- the status of a session that ends so
abbrev pub status_at : Ending → Status
status_at Ended = statuses.Done
status_at (AtBadLine at) = statuses.BadSession
status_at Cut = statuses.Cut
status_at TooMuch = statuses.TooMuch
