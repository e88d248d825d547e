use Rattle.std.proofs.Common.{◌≡◌, ◌++◌, length}
use Rattle.nm_piece.proofs.raw.RawAttributes.to_list.Given as goal

abbrev pub invariant-loop-attribute : goal.invariant-loop-attribute
invariant-loop-attribute l = l.list.items ++ l.self ≡ l.initial.self

abbrev pub decreases-loop-attribute : goal.decreases-loop-attribute
decreases-loop-attribute l = length l.self
