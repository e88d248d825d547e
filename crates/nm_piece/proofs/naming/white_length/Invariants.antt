use Rattle.nm_piece.specs.Name.{ends_white}
use Rattle.nm_piece.proofs.Splits.{IsUncut}
use Rattle.nm_piece.proofs.naming.white_length.Given as goal

abbrev pub invariant-loop-place : goal.invariant-loop-place
invariant-loop-place l = IsUncut ends_white l.bytes l.place
