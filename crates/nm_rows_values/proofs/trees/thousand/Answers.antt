use Rattle.std.proofs.Common.{◌≡◌, ℕ, ◌+◌, ◌<◌, List, [], ◌∷◌, ◌++◌, arith}
use Rattle.std.specs.List.{AllByRecursion}
use Rattle.std.specs.List.Sorted.{IsStrictlySortedBy}
use Rattle.std.specs.Ordering.{nat_cmp}
use Rattle.std.specs.declared.cmp.Ordering.TheVariants.{Less}
use Rattle.std.proofs.lemmas.Bool.{lt-ltb}
use Rattle.std.proofs.lemmas.Cmp.{nat_cmp_total}
use Rattle.nm_tree.specs.Pairs.{IsRising, pair_cmp}
use Rattle.nm_tree.proofs.Around.{AllByRecursion-map, rising_around}
use Rattle.nm_rows_values.proofs.trees.thousand.Goals as goal

pushed_below : (pairs : List (ℕ × ℕ)) (key value : ℕ) → AllByRecursion (λ p. p.0 < key) pairs → AllByRecursion (λ p. p.0 < key + 1) (pairs ++ (key, value) ∷ [])
pushed_below [] key value below = (omega arith, tt)
pushed_below (x ∷ xs) key value below = (let low = below.0 in omega arith, pushed_below xs key value below.1)

pushed_rising : (pairs : List (ℕ × ℕ)) (key value : ℕ) → IsRising nat_cmp pairs → AllByRecursion (λ p. p.0 < key) pairs → IsRising nat_cmp (pairs ++ (key, value) ∷ [])
unfolding IsStrictlySortedBy
pushed_rising pairs key value rising below =
    rising_around (pair_cmp nat_cmp) (λ x y z. nat_cmp_total.trans x.0 y.0 z.0) pairs (key, value) [] rising tt
    (AllByRecursion-map {X = ℕ × ℕ} (λ p. p.0 < key) (λ p. nat_cmp p.0 key ≡ Less) (λ p low. rw (lt-ltb p.0 key low)) pairs below) tt

pub loop-key-init : goal.loop-key-init
unfolding IsStrictlySortedBy
loop-key-init c = rw c.new-pairs.ensures.items (tt, tt)

pub loop-key-preserved : goal.loop-key-preserved
loop-key-preserved c =
    rw c.in_ok-push.ensures.items
    (pushed_rising c.loop-key.pairs.items c.loop-key.key c.loop-key.key c.loop-key.invariant.0 c.loop-key.invariant.1, pushed_below c.loop-key.pairs.items c.loop-key.key c.loop-key.key c.loop-key.invariant.1)
