-- How a branch is seen by its fields, and what it keeps.
use Rattle.std.specs.Prelude.{◌≡◌, ℕ, ◌+◌, ◌==◌, [], ◌∷◌, ◌++◌, max, true, Option, None, Some}
use Rattle.std.specs.declared.alloc.Global.{Global}
use Rattle.std.specs.declared.cmp.Ordering.{Ordering}
use Rattle.std.specs.declared.sync.Arc.{Arc}
use Rattle.nm_tree.specs.Sight.{Sight, IsFork, IsShallow, fork_of}
use Rattle.nm_tree.specs.declared.node.Node.{Node}

module _ {K V : Type 0} where
  abbrev pub sight_of : ℕ → Option (Arc (Node K V) Global) → Sight K V
  sight_of height None = record { pairs = []; height = height; level = true }
  sight_of height (Some node) = record { pairs = node.value.left.pairs ++ node.value.pair.value ∷ node.value.right.pairs; height = height; level = node.value.left.height == node.value.right.height }

  abbrev pub IsBranch : (K → K → Ordering) → ℕ → Option (Arc (Node K V) Global) → Type 0
  IsBranch cmp height None = height ≡ 0
  IsBranch cmp height (Some node) =
      IsFork cmp node.value.left node.value.pair.value node.value.right
      × (height ≡ max node.value.left.height node.value.right.height + 1)
      × IsShallow (fork_of node.value.left node.value.pair.value node.value.right)
