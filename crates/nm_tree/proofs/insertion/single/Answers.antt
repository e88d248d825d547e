use Rattle.std.proofs.Common.{arith}
use Rattle.std.specs.List.Sorted.{IsStrictlySortedBy}
use Rattle.nm_tree.proofs.insertion.single.Goals as goal

pub make-requires : goal.make-requires
unfolding IsStrictlySortedBy
make-requires g c = rw (c.empty.ensures, c.empty-2.ensures) (record { rising = (tt, tt); balanced = (omega arith, omega arith) })
