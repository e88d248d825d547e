use Rattle.std.proofs.Common.{◌≡◌, ◌++◌, length}
use Rattle.nm_statement.specs.Set.{IsRising}
use Rattle.nm_writer.specs.Canonical.{elements}
use Rattle.nm_writer.specs.Passing.{Leaves}
use Rattle.nm_writer.proofs.sections.write_elements.Given as goal

-- of what the block held and all objects, the block's bytes and the objects of the rest are left, and no write failed
abbrev pub invariant-loop-rest : goal.invariant-loop-rest
invariant-loop-rest g l =
    let sink = g.K.Sink in
    record {
      rising : IsRising l.rest;
      passed : Leaves (sink.written l.fn.sink) (sink.written l.sink) (l.fn.block.items ++ elements l.is_full l.prefixes l.statements) (l.block.items ++ elements l.is_full l.prefixes l.rest);
      unfailed : sink.faults l.sink ≡ sink.faults l.fn.sink;
      beside_stays : sink.beside l.sink ≡ sink.beside l.fn.sink;
    }

abbrev pub decreases-loop-rest : goal.decreases-loop-rest
decreases-loop-rest g l = length l.rest
