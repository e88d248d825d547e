use Rattle.std.proofs.Common.{ℕ, ◌<◌}
use Rattle.std.specs.List.{AllByRecursion}
use Rattle.std.specs.Ordering.{nat_cmp}
use Rattle.nm_tree.specs.Pairs.{IsRising}
use Rattle.nm_rows_values.proofs.trees.thousand.Given as goal

abbrev pub invariant-loop-key : goal.invariant-loop-key
invariant-loop-key l = IsRising nat_cmp l.pairs.items × AllByRecursion (λ (p : ℕ × ℕ). p.0 < l.key) l.pairs.items
