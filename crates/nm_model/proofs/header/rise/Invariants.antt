use Rattle.std.proofs.Common.{◌≡◌, length}
use Rattle.nm_ident.specs.Rising.{is_rising_by}
use Rattle.nm_model.proofs.header.rise.Given as goal

abbrev pub invariant-loop-rest : goal.invariant-loop-rest
invariant-loop-rest g l = is_rising_by g.T.Ord.cmp l.rest ≡ is_rising_by g.T.Ord.cmp l.items

abbrev pub decreases-loop-rest : goal.decreases-loop-rest
decreases-loop-rest g l = length l.rest
