-- What a branch of the tree is seen as.
use Rattle.std.specs.Prelude.{ℕ, ◌+◌, ◌*◌, ◌^◌, ◌<◌, ◌≤◌, ◌==◌, Bool, true, List, [], ◌∷◌, ◌++◌, length, max}
use Rattle.nm_tree.specs.Pairs.{IsRising}
use Rattle.std.specs.declared.cmp.Ordering.{Ordering}

-- its pairs in order, how high it is, and whether its two sides are equally high
pub record Sight (K V : Type 0) : Type 0 where
  pub pairs : List (K × V)
  pub height : ℕ
  pub level : Bool

-- no node
abbrev pub bare : {K V : Type 0} → Sight K V
bare = record { pairs = []; height = 0; level = true }

-- a pair between two sides
abbrev pub fork_of : {K V : Type 0} → Sight K V → K × V → Sight K V → Sight K V
fork_of left pair right = record { pairs = left.pairs ++ pair ∷ right.pairs; height = max left.height right.height + 1; level = left.height == right.height }

-- neither side is more than this above the other
abbrev pub DifferByAtMost : {K V : Type 0} → ℕ → Sight K V → Sight K V → Type 0
DifferByAtMost by left right = (left.height ≤ right.height + by) × (right.height ≤ left.height + by)

-- there are pairs enough for the height
abbrev pub IsShallow : {K V : Type 0} → Sight K V → Type 0
IsShallow branch = 2 ^ branch.height ≤ (length branch.pairs + 1) * (length branch.pairs + 1)

-- what a fork of the tree keeps
pub record IsFork {K V : Type 0} (cmp : K → K → Ordering) (left : Sight K V) (pair : K × V) (right : Sight K V) : Type 0 where
  pub rising : IsRising cmp (left.pairs ++ pair ∷ right.pairs)
  pub balanced : DifferByAtMost 1 left right

-- it is as low as a branch of its pairs can be: its height is the number of binary digits of their number
pub record IsFull {K V : Type 0} (branch : Sight K V) : Type 0 where
  pub enough : length branch.pairs < 2 ^ branch.height
  pub needed : 2 ^ branch.height ≤ max 1 (2 * length branch.pairs)
