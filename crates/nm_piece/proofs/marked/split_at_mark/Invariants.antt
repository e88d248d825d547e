use Rattle.std.proofs.Common.{take, drop}
use Rattle.nm_piece.proofs.Scans.{PartsFrom}
use Rattle.nm_piece.proofs.marked.split_at_mark.Given as goal

abbrev pub invariant-loop-place : goal.invariant-loop-place
invariant-loop-place l = PartsFrom l.mark l.bytes (take l.place l.bytes) (drop l.place l.bytes)
