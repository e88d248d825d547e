-- Lists of items in blocks, one behind another.
use Rattle.std.specs.Prelude.{◌≤◌, ◌<◌, ℕ, List, [], ◌∷◌, ◌++◌, length, map}
use Rattle.std.specs.Global.{Global, Vec}
use Rattle.std.specs.List.{AllByRecursion}
use Rattle.std.specs.declared.cmp.Ordering.{Ordering}
use Rattle.std.specs.declared.sync.Arc.{Arc}
use Rattle.nm_blocks.specs.Items.{IsRising}

-- the most items of a block
abbrev pub block_length : ℕ
block_length = 64

module _ {T : Type 0} where
  -- the lists, joined to one
  abbrev pub joined : List (List T) → List T
  joined [] = []
  joined (list ∷ lists) = list ++ joined lists

  -- blocks, behind what they are shared by
  abbrev pub lists_of : List (Arc (Vec T) Global) → List (List T)
  lists_of = map (λ block. block.value.items)

  -- the items of all blocks
  abbrev pub items_of : List (Arc (Vec T) Global) → List T
  items_of blocks = joined (lists_of blocks)

  -- a block is neither empty nor too long
  abbrev pub IsBlock : List T → Type 0
  IsBlock list = (0 < length list) × (length list ≤ block_length)

  abbrev pub AreBlocks : List (List T) → Type 0
  AreBlocks = AllByRecursion IsBlock

-- blocks whose items rise
pub record AreRising {T K : Type 0} (key : T → K) (cmp : K → K → Ordering) (lists : List (List T)) : Type 0 where
  pub sizes : AreBlocks lists
  pub rising : IsRising key cmp (joined lists)
