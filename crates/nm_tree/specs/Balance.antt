-- What a branch becomes when it is balanced anew.
use Rattle.std.specs.Prelude.{◌≡◌, ◌+◌, ◌≤◌, ◌∷◌, ◌++◌, false}
use Rattle.nm_tree.specs.Sight.{Sight, DifferByAtMost, fork_of}

module _ {K V : Type 0} where
  -- as high as the side that was higher, or one level higher where that side was level
  pub record IsRotated (side : Sight K V) (branch : Sight K V) : Type 0 where
    pub not_lower : side.height ≤ branch.height
    pub at_most_one_higher : branch.height ≤ side.height + 1
    pub leaning : side.level ≡ false → branch.height ≡ side.height

  -- a pair between two sides, in order
  pub record BalancesTo (left : Sight K V) (pair : K × V) (right : Sight K V) (branch : Sight K V) : Type 0 where
    pub pairs : branch.pairs ≡ left.pairs ++ pair ∷ right.pairs
    pub fork : DifferByAtMost 1 left right → branch ≡ fork_of left pair right
    pub rotated_right : left.height ≡ right.height + 2 → IsRotated left branch
    pub rotated_left : right.height ≡ left.height + 2 → IsRotated right branch
