-- The bytes before `at` were appended, and no fault was counted.
use Rattle.std.proofs.Common.{◌≡◌, ◌-◌, ◌≤◌, length, take}
use Rattle.std.specs.Io.KnownBytes.{Appends}
use Rattle.nm_base.proofs.flow.write_whole.Given as goal

abbrev pub invariant-loop-at : goal.invariant-loop-at
invariant-loop-at g l =
    let sink = g.K.Sink in
    record {
      within : l.at ≤ length l.bytes;
      appended : Appends (sink.written l.fn.sink) (sink.written l.sink) (take l.at l.bytes);
      steady : sink.faults l.sink ≡ sink.faults l.fn.sink;
      beside_stays : sink.beside l.sink ≡ sink.beside l.fn.sink;
    }

-- the bytes that are left to write
abbrev pub decreases-loop-at : goal.decreases-loop-at
decreases-loop-at g l = length l.bytes - l.at
