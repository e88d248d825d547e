use Rattle.std.proofs.Common.{ap, subst, arith}
use Rattle.nm_tree.specs.Pairs.{IsRising}
use Rattle.nm_tree.proofs.Rising.{regroup_double, rising_behind, rising_inner_left, rising_inner_right}
use Rattle.nm_tree.proofs.balance.double.Goals as goal

pub fork-requires : goal.fork-requires
fork-requires g c =
    let s = rw c.in-Some.ensures.fork at c.requires.rising in
    let e = ap (λ b. b.height) c.in-Some.ensures.fork in
    record { rising = rising_inner_left _ _ _ _ _ _ (rising_inner_left _ _ _ _ _ _ s); balanced = (omega (arith, c.in-Some.ensures.kept.balanced), omega (arith, c.in-Some.ensures.kept.balanced)) }

pub fork-requires-2 : goal.fork-requires-2
fork-requires-2 g c =
    let s = rw c.in-Some.ensures.fork at c.requires.rising in
    let e = ap (λ b. b.height) c.in-Some.ensures.fork in
    record { rising = rising_inner_right _ _ _ _ _ _ (rising_behind _ _ _ _ s); balanced = (omega (arith, c.in-Some.ensures.kept.balanced), omega (arith, c.in-Some.ensures.kept.balanced)) }

pub fork-requires-3 : goal.fork-requires-3
fork-requires-3 g c =
    let s = rw c.in-Some.ensures.fork at c.requires.rising in
    let e = ap (λ b. b.height) c.in-Some.ensures.fork in
    rw (c.in_ok-below.ensures.fork, c.in_ok-above.ensures.fork) (record { rising = subst (IsRising g.K.Ord.cmp) (regroup_double _ _ _ _ _ _ _) s; balanced = (omega (arith, c.in-Some.ensures.kept.balanced), omega (arith, c.in-Some.ensures.kept.balanced)) })
