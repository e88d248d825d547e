use Rattle.std.proofs.Common.{length}
use Rattle.nm_ident.specs.Name.{continues_name}
use Rattle.nm_piece.proofs.Splits.{IsPassed}
use Rattle.nm_piece.proofs.naming.name_length.Given as goal

abbrev pub invariant-chunks : goal.invariant-chunks
invariant-chunks l = IsPassed continues_name l.bytes l.rest

abbrev pub decreases-chunks : goal.decreases-chunks
decreases-chunks l = length l.rest
