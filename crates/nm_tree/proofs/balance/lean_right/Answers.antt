use Rattle.std.proofs.Common.{ap, subst, sym, arith}
use Rattle.std.proofs.lemmas.Result.{IfOk-weaker}
use Rattle.nm_tree.specs.Pairs.{IsRising}
use Rattle.nm_tree.proofs.Rising.{regroup, rising_inner_left, rotated_left}
use Rattle.nm_tree.proofs.balance.lean_right.Goals as goal

pub fork-requires : goal.fork-requires
fork-requires g c =
    let s = rw c.in-Some.ensures.fork at c.requires.rising in
    let e = ap (λ b. b.height) c.in-Some.ensures.fork in
    record { rising = rising_inner_left _ _ _ _ _ _ s; balanced = (omega (arith, c.in-Some.ensures.kept.balanced), omega (arith, c.in-Some.ensures.kept.balanced)) }

pub fork-requires-then-height : goal.fork-requires-then-height
fork-requires-then-height g c =
    let s = rw c.in-Some.ensures.fork at c.requires.rising in
    let e = ap (λ b. b.height) c.in-Some.ensures.fork in
    rw c.in_ok-below.ensures.fork (record { rising = subst (IsRising g.K.Ord.cmp) (sym (regroup _ _ _ _ _)) s; balanced = (omega (arith, c.in-Some.ensures.kept.balanced), omega (arith, c.in-Some.ensures.kept.balanced)) })

pub returns-then-height-clause-pairs : goal.returns-then-height-clause-pairs
returns-then-height-clause-pairs g c =
    IfOk-weaker c.fork-then-height.result _ _ (λ b e. rotated_left b c.in_ok-below.below c.args.right.now c.args.left.now c.in-Some.field-0.left.now c.in-Some.field-0.right.now c.args.pair.now.value c.in-Some.field-0.pair.now.value e c.in_ok-below.ensures.fork c.in-Some.ensures.fork) c.fork-then-height.ensures.fork
