-- Why nothing more is taken of a stream, as a status and a place.
use Rattle.std.specs.Prelude.{ℕ}
use Rattle.nm_base.specs.declared.outcome.Status.{Status}
use Rattle.nm_base.specs.declared.outcome.Status.TheVariants as statuses
use Rattle.nm_session.specs.declared.halt.Halt.{Halt}
use Rattle.nm_session.specs.declared.halt.Halt.TheVariants.{BadLine, Cut, TooMuch, ReadFault, NoMemory}
use Rattle.nm_session.specs.declared.stop.Stop.{Stop}

abbrev pub status_of : Halt → Status
status_of (BadLine at) = statuses.BadSession
status_of Cut = statuses.Cut
status_of TooMuch = statuses.TooMuch
status_of ReadFault = statuses.ReadFault
status_of NoMemory = statuses.NoMemory

-- where the line begins that is no command, and 0 where no line is told of
abbrev pub place_of : Halt → ℕ
place_of (BadLine at) = at
place_of Cut = 0
place_of TooMuch = 0
place_of ReadFault = 0
place_of NoMemory = 0

abbrev pub stop_of : Halt → Stop
stop_of halt = record { status = status_of halt; at = place_of halt }
