use Rattle.std.proofs.Common.{ap, subst, arith}
use Rattle.nm_tree.specs.Pairs.{IsRising}
use Rattle.nm_tree.proofs.Rising.{regroup, rising_inner_right}
use Rattle.nm_tree.proofs.balance.lean_left.Goals as goal

pub fork-requires : goal.fork-requires
fork-requires g c =
    let s = rw c.in-Some.ensures.fork at c.requires.rising in
    let e = ap (λ b. b.height) c.in-Some.ensures.fork in
    record { rising = rising_inner_right _ _ _ _ _ _ s; balanced = (omega (arith, c.in-Some.ensures.kept.balanced), omega (arith, c.in-Some.ensures.kept.balanced)) }

pub fork-requires-then-height : goal.fork-requires-then-height
fork-requires-then-height g c =
    let s = rw c.in-Some.ensures.fork at c.requires.rising in
    let e = ap (λ b. b.height) c.in-Some.ensures.fork in
    let a = c.in_ok-above.ensures.fork in
    rw a (record { rising = subst (IsRising g.K.Ord.cmp) (regroup _ _ _ _ _) s; balanced = (omega (arith, c.in-Some.ensures.kept.balanced), omega (arith, c.in-Some.ensures.kept.balanced)) })
