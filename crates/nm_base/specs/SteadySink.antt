-- A sink whose room was reserved when it was made.
use Rattle.std.specs.Prelude.{ℕ, ◌-◌, List, Option, None, Some, length}
use Rattle.nm_base.specs.declared.steady.SteadySink.{SteadySink}
use Rattle.nm_base.specs.Beside.{Beside}

-- the bytes written so far
abbrev pub bytes_of : SteadySink → List ℕ
bytes_of sink = sink.bytes.items

-- how many bytes the sink takes in all
abbrev pub room_of : SteadySink → ℕ
room_of sink = sink.room

-- how many more bytes it takes
abbrev pub room_left : SteadySink → ℕ
room_left sink = room_of sink - length (bytes_of sink)

-- how many calls failed
abbrev pub faults_of : SteadySink → ℕ
faults_of sink = sink.faults

-- a sink tells its bytes
abbrev pub told_by : SteadySink → Option (List ℕ)
told_by sink = Some (bytes_of sink)

-- beside a steady sink lies its room alone
abbrev pub room_beside : SteadySink → Beside
room_beside sink = record { bytes = None; faults = 0; room = room_of sink }
