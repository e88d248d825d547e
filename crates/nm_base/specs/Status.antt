-- The exit status of a process.
use Rattle.std.specs.Prelude.{ℕ}
use Rattle.nm_base.specs.declared.outcome.Status.{Status}
use Rattle.nm_base.specs.declared.outcome.Status.TheVariants.{Done, Refused, Usage, ReadFault, WriteFault, NoMemory, BadSession, Cut, TooMuch, DoorFault}

-- the number that a run ends with
abbrev pub code_of : Status → ℕ
code_of Done = 0
code_of Refused = 1
code_of Usage = 2
code_of ReadFault = 3
code_of WriteFault = 4
code_of NoMemory = 5
code_of BadSession = 6
code_of Cut = 7
code_of TooMuch = 8
code_of DoorFault = 10
