use Rattle.std.proofs.Common.{◌≡◌, length}
use Rattle.nm_piece.specs.Value.{begins_references}
use Rattle.nm_piece.proofs.plain.begins_references.Given as goal

abbrev pub invariant-loop-name : goal.invariant-loop-name
invariant-loop-name l = begins_references l.bytes ≡ begins_references l.rest

abbrev pub decreases-loop-name : goal.decreases-loop-name
decreases-loop-name l = length l.rest
