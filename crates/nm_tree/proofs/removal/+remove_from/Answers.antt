use Rattle.std.proofs.Common.{◌≡◌, ◌∷◌, ◌++◌, ap, sym, ◌∙◌, subst, arith}
use Rattle.std.specs.declared.cmp.Ordering.TheVariants.{Less, Equal, Greater}
use Rattle.nm_tree.specs.Pairs.{IsRising, without}
use Rattle.nm_tree.proofs.Around.{rising-without, without-left, without-middle, without-right}
use Rattle.nm_tree.proofs.removal.+remove_from.Goals as goal

pub returns-in_default-2-clause-pairs : goal.returns-in_default-2-clause-pairs
returns-in_default-2-clause-pairs g t c =
    let key = c.args.key.now in
    let kept = c.in-Some.ensures.kept in
    let order : g.K.Ord.cmp key c.in-Some.field-0.pair.now.value.0 ≡ Less = cc in
    let same = rw c.in_default-2.is at c.in_ok-below-in-Less.ensures.pairs in
    ap (λ b. without g.K.Ord.cmp key b.pairs) c.in-Some.ensures.fork ∙ without-left g.met.K.Ord.total _ _ _ kept.rising key order ∙ ap (λ ys. ys ++ c.in-Some.field-0.pair.now.value ∷ c.in-Some.field-0.right.now.pairs) same ∙ ap (λ b. b.pairs) (sym c.in-Some.ensures.fork)

pub balance-requires-clause-rising : goal.balance-requires-clause-rising
balance-requires-clause-rising g t c =
    let key = c.args.key.now in
    let kept = c.in-Some.ensures.kept in
    let order : g.K.Ord.cmp key c.in-Some.field-0.pair.now.value.0 ≡ Less = cc in
    let others = rw c.in-Some-2.is at c.in_ok-below-in-Less.ensures.pairs in
    rw others (subst (IsRising g.K.Ord.cmp) (without-left g.met.K.Ord.total _ _ _ kept.rising key order) (rising-without g.met.K.Ord.total key _ kept.rising))

pub balance-requires-clause-near : goal.balance-requires-clause-near
balance-requires-clause-near g t c =
    let shrunk = rw c.in-Some-2.is at c.in_ok-below-in-Less.ensures.height in
    let balanced = c.in-Some.ensures.kept.balanced in
    (omega arith, omega arith)

pub returns-in_ok-balance-in-Less-clause-pairs : goal.returns-in_ok-balance-in-Less-clause-pairs
returns-in_ok-balance-in-Less-clause-pairs g t c =
    let key = c.args.key.now in
    let kept = c.in-Some.ensures.kept in
    let order : g.K.Ord.cmp key c.in-Some.field-0.pair.now.value.0 ≡ Less = cc in
    let others = rw c.in-Some-2.is at c.in_ok-below-in-Less.ensures.pairs in
    c.in_ok-balance-in-Less.ensures.balanced.pairs ∙ ap (λ ys. ys ++ c.in-Some.field-0.pair.now.value ∷ c.in-Some.field-0.right.now.pairs) others ∙ sym (without-left g.met.K.Ord.total _ _ _ kept.rising key order) ∙ ap (λ b. without g.K.Ord.cmp key b.pairs) (sym c.in-Some.ensures.fork)

pub returns-in_default-3-clause-pairs : goal.returns-in_default-3-clause-pairs
returns-in_default-3-clause-pairs g t c =
    let key = c.args.key.now in
    let kept = c.in-Some.ensures.kept in
    let order : g.K.Ord.cmp key c.in-Some.field-0.pair.now.value.0 ≡ Greater = cc in
    let same = rw c.in_default-3.is at c.in_ok-above-in-Greater.ensures.pairs in
    ap (λ b. without g.K.Ord.cmp key b.pairs) c.in-Some.ensures.fork ∙ without-right g.met.K.Ord.total _ _ _ kept.rising key order ∙ ap (λ ys. c.in-Some.field-0.left.now.pairs ++ c.in-Some.field-0.pair.now.value ∷ ys) same ∙ ap (λ b. b.pairs) (sym c.in-Some.ensures.fork)

pub balance-requires-in-Greater-clause-rising : goal.balance-requires-in-Greater-clause-rising
balance-requires-in-Greater-clause-rising g t c =
    let key = c.args.key.now in
    let kept = c.in-Some.ensures.kept in
    let order : g.K.Ord.cmp key c.in-Some.field-0.pair.now.value.0 ≡ Greater = cc in
    let others = rw c.in-Some-3.is at c.in_ok-above-in-Greater.ensures.pairs in
    rw others (subst (IsRising g.K.Ord.cmp) (without-right g.met.K.Ord.total _ _ _ kept.rising key order) (rising-without g.met.K.Ord.total key _ kept.rising))

pub balance-requires-in-Greater-clause-near : goal.balance-requires-in-Greater-clause-near
balance-requires-in-Greater-clause-near g t c =
    let shrunk = rw c.in-Some-3.is at c.in_ok-above-in-Greater.ensures.height in
    let balanced = c.in-Some.ensures.kept.balanced in
    (omega arith, omega arith)

pub returns-in_ok-balance-in-Greater-clause-pairs : goal.returns-in_ok-balance-in-Greater-clause-pairs
returns-in_ok-balance-in-Greater-clause-pairs g t c =
    let key = c.args.key.now in
    let kept = c.in-Some.ensures.kept in
    let order : g.K.Ord.cmp key c.in-Some.field-0.pair.now.value.0 ≡ Greater = cc in
    let others = rw c.in-Some-3.is at c.in_ok-above-in-Greater.ensures.pairs in
    c.in_ok-balance-in-Greater.ensures.balanced.pairs ∙ ap (λ ys. c.in-Some.field-0.left.now.pairs ++ c.in-Some.field-0.pair.now.value ∷ ys) others ∙ sym (without-right g.met.K.Ord.total _ _ _ kept.rising key order) ∙ ap (λ b. without g.K.Ord.cmp key b.pairs) (sym c.in-Some.ensures.fork)

pub join-requires-clause-rising : goal.join-requires-clause-rising
join-requires-clause-rising g t c =
    let key = c.args.key.now in
    let kept = c.in-Some.ensures.kept in
    let order : g.K.Ord.cmp key c.in-Some.field-0.pair.now.value.0 ≡ Equal = cc in
    subst (IsRising g.K.Ord.cmp) (without-middle g.met.K.Ord.total _ _ _ kept.rising key order) (rising-without g.met.K.Ord.total key _ kept.rising)

pub returns-in_ok-join-in-Equal-clause-pairs : goal.returns-in_ok-join-in-Equal-clause-pairs
returns-in_ok-join-in-Equal-clause-pairs g t c =
    let key = c.args.key.now in
    let kept = c.in-Some.ensures.kept in
    let order : g.K.Ord.cmp key c.in-Some.field-0.pair.now.value.0 ≡ Equal = cc in
    c.in_ok-join-in-Equal.ensures.pairs ∙ sym (without-middle g.met.K.Ord.total _ _ _ kept.rising key order) ∙ ap (λ b. without g.K.Ord.cmp key b.pairs) (sym c.in-Some.ensures.fork)
