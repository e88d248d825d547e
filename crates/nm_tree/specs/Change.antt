-- How a change leaves the height of a branch.
use Rattle.std.specs.Prelude.{◌≡◌, ◌+◌, ◌≤◌, ◌⊎◌, false}
use Rattle.nm_tree.specs.Sight.{Sight}

module _ {K V : Type 0} where
  -- at most one level higher, and then one of its sides is higher than the other, or it is a single node
  pub record Grows (old : Sight K V) (branch : Sight K V) : Type 0 where
    pub not_lower : old.height ≤ branch.height
    pub at_most_one_higher : branch.height ≤ old.height + 1
    pub leaning : branch.height ≡ old.height + 1 → (branch.level ≡ false) ⊎ (branch.height ≡ 1)

  -- at most one level lower
  pub record Shrinks (old : Sight K V) (branch : Sight K V) : Type 0 where
    pub not_higher : branch.height ≤ old.height
    pub at_most_one_lower : old.height ≤ branch.height + 1
