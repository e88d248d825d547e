use Rattle.std.proofs.Common.{◌≡◌, ◌≤◌, length}
use Rattle.nm_reader.specs.Context.{beginning}
use Rattle.nm_reader.specs.Input.{cut}
use Rattle.nm_reader.specs.Read.{cut_rest, due_from}
use Rattle.nm_reader.proofs.reading.read_pieces.Given as goal

-- what is due of the input is what is due of the rest
abbrev pub invariant-pieces : goal.invariant-pieces
invariant-pieces l = record {
  within : length l.rest ≤ length l.input;
  due : due_from l.reader (cut_rest l.last (length l.input) l.rest) ≡ due_from beginning (cut l.last l.input);
}

abbrev pub decreases-pieces : goal.decreases-pieces
decreases-pieces l = length l.rest
