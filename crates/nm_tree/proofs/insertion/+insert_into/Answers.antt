use Rattle.std.proofs.Common.{◌≡◌, ◌∷◌, ◌++◌, ap, sym, ◌∙◌, subst}
use Rattle.std.specs.declared.cmp.Ordering.TheVariants.{Less, Equal, Greater}
use Rattle.nm_tree.specs.Pairs.{IsRising, with_pair}
use Rattle.nm_tree.proofs.Around.{with_pair-left, with_pair-middle, with_pair-right, rising-with_pair}
use Rattle.nm_tree.proofs.insertion.+insert_into.Goals as goal

pub balance-requires-clause-rising : goal.balance-requires-clause-rising
balance-requires-clause-rising g t c =
    let o = g.met.K.Ord.total in
    let kept = c.in-Some.ensures.kept.rising in
    let order : g.K.Ord.cmp c.args.pair.now.value.0 c.in-Some.field-0.pair.now.value.0 ≡ Less = cc in
    rw c.in_ok-below-in-Less.ensures.pairs (subst (IsRising g.K.Ord.cmp) (with_pair-left o _ _ _ kept c.args.pair.now.value order) (rising-with_pair o c.args.pair.now.value _ kept))

pub fork-requires : goal.fork-requires
fork-requires g t c =
    let o = g.met.K.Ord.total in
    let kept = c.in-Some.ensures.kept.rising in
    let order : g.K.Ord.cmp c.args.pair.now.value.0 c.in-Some.field-0.pair.now.value.0 ≡ Equal = cc in
    record { rising = subst (IsRising g.K.Ord.cmp) (with_pair-middle o _ _ _ kept c.args.pair.now.value order) (rising-with_pair o c.args.pair.now.value _ kept); balanced = c.in-Some.ensures.kept.balanced }

pub balance-requires-in-Greater-clause-rising : goal.balance-requires-in-Greater-clause-rising
balance-requires-in-Greater-clause-rising g t c =
    let o = g.met.K.Ord.total in
    let kept = c.in-Some.ensures.kept.rising in
    let order : g.K.Ord.cmp c.args.pair.now.value.0 c.in-Some.field-0.pair.now.value.0 ≡ Greater = cc in
    rw c.in_ok-above-in-Greater.ensures.pairs (subst (IsRising g.K.Ord.cmp) (with_pair-right o _ _ _ kept c.args.pair.now.value order) (rising-with_pair o c.args.pair.now.value _ kept))

pub returns-in_ok-branch-in-Less-clause-pairs : goal.returns-in_ok-branch-in-Less-clause-pairs
returns-in_ok-branch-in-Less-clause-pairs g t c =
    let o = g.met.K.Ord.total in
    let kept = c.in-Some.ensures.kept.rising in
    let order : g.K.Ord.cmp c.args.pair.now.value.0 c.in-Some.field-0.pair.now.value.0 ≡ Less = cc in
    c.in_ok-branch-in-Less.ensures.balanced.pairs ∙ ap (λ ys. ys ++ c.in-Some.field-0.pair.now.value ∷ c.in-Some.field-0.right.now.pairs) c.in_ok-below-in-Less.ensures.pairs
    ∙ sym (with_pair-left o _ _ _ kept c.args.pair.now.value order) ∙ ap (λ b. with_pair g.K.Ord.cmp c.args.pair.now.value b.pairs) (sym c.in-Some.ensures.fork)

pub returns-in_ok-branch-in-Equal-clause-pairs : goal.returns-in_ok-branch-in-Equal-clause-pairs
returns-in_ok-branch-in-Equal-clause-pairs g t c =
    let o = g.met.K.Ord.total in
    let kept = c.in-Some.ensures.kept.rising in
    let order : g.K.Ord.cmp c.args.pair.now.value.0 c.in-Some.field-0.pair.now.value.0 ≡ Equal = cc in
    ap (λ b. b.pairs) c.in_ok-branch-in-Equal.ensures.fork ∙ sym (with_pair-middle o _ _ _ kept c.args.pair.now.value order)
    ∙ ap (λ b. with_pair g.K.Ord.cmp c.args.pair.now.value b.pairs) (sym c.in-Some.ensures.fork)

pub returns-in_ok-branch-in-Greater-clause-pairs :
    goal.returns-in_ok-branch-in-Greater-clause-pairs
returns-in_ok-branch-in-Greater-clause-pairs g t c =
    let o = g.met.K.Ord.total in
    let kept = c.in-Some.ensures.kept.rising in
    let order : g.K.Ord.cmp c.args.pair.now.value.0 c.in-Some.field-0.pair.now.value.0 ≡ Greater = cc in
    c.in_ok-branch-in-Greater.ensures.balanced.pairs ∙ ap (λ ys. c.in-Some.field-0.left.now.pairs ++ c.in-Some.field-0.pair.now.value ∷ ys) c.in_ok-above-in-Greater.ensures.pairs
    ∙ sym (with_pair-right o _ _ _ kept c.args.pair.now.value order) ∙ ap (λ b. with_pair g.K.Ord.cmp c.args.pair.now.value b.pairs) (sym c.in-Some.ensures.fork)
