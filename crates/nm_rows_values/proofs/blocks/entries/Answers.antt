use Rattle.std.proofs.Common.{◌≤◌, ℕ, ◌<◌, List, [], ◌∷◌, ◌++◌, arith}
use Rattle.std.proofs.lemmas.Bool.{lt-ltb}
use Rattle.std.specs.List.{AllByRecursion}
use Rattle.std.specs.Ordering.{nat_cmp}
use Rattle.std.specs.declared.cmp.Ordering.TheVariants.{Less}
use Rattle.nm_blocks.proofs.Lists.{all_both, all_weaker, rising_both, rising_more, rising_none}
use Rattle.nm_blocks.specs.Items.{IsRising, item_cmp}
use Rattle.nm_rows_values.specs.declared.blocks.Entry.{Entry}
use Rattle.nm_rows_values.proofs.blocks.entries.Goals as goal

pushed_below : (entries : List Entry) (entry : Entry) (n m : ℕ) → n ≤ m → entry.key < m → AllByRecursion (λ e. e.key < n) entries → AllByRecursion (λ (e : Entry). e.key < m) (entries ++ entry ∷ [])
pushed_below entries entry n m most last below = all_both _ entries (entry ∷ []) (all_weaker (λ e. e.key < n) (λ e. e.key < m) (λ e low. omega (arith, low, most)) entries below) (last, tt)

pushed_rising : (entries : List Entry) (entry : Entry) → IsRising (λ e. e.key) nat_cmp entries → AllByRecursion (λ e. e.key < entry.key) entries → IsRising (λ (e : Entry). e.key) nat_cmp (entries ++ entry ∷ [])
pushed_rising entries entry rising below =
    let cmp = item_cmp {T = Entry} (λ e. e.key) nat_cmp in
    rising_both cmp entries (entry ∷ []) rising (rising_more cmp entry [] tt (rising_none cmp)) (all_weaker (λ e. e.key < entry.key) _ (λ e low. (rw (lt-ltb e.key entry.key low) (λ i. Less), tt)) entries below)

pub loop-place-init : goal.loop-place-init
loop-place-init c = rw c.new-made.ensures.items (rising_none (item_cmp {T = Entry} (λ e. e.key) nat_cmp), tt)

pub loop-place-preserved : goal.loop-place-preserved
loop-place-preserved c =
    rw c.in_ok-push.ensures.items
    (pushed_rising c.loop-place.made.items _ c.loop-place.invariant.0 c.loop-place.invariant.1, pushed_below c.loop-place.made.items _ _ _ (omega arith) (omega arith) c.loop-place.invariant.1)
