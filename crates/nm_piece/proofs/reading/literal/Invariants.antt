use Rattle.std.proofs.Common.{◌≡◌, drop}
use Rattle.nm_piece.specs.Reading.{literal_at}
use Rattle.nm_piece.proofs.reading.literal.Given as goal

abbrev pub invariant-loop-wanted : goal.invariant-loop-wanted
invariant-loop-wanted l = literal_at l.text l.bytes ≡ literal_at (drop l.wanted-index l.text) l.rest
