-- A list of blocks, cut at a key.
use Rattle.std.specs.Prelude.{◌≡◌, List, ◌∷◌, ◌++◌}
use Rattle.std.specs.List.{AllByRecursion}
use Rattle.std.specs.declared.cmp.Ordering.{Ordering}
use Rattle.std.specs.declared.cmp.Ordering.TheVariants.{Less}
use Rattle.nm_blocks.specs.Blocks.{joined}

module _ {T K : Type 0} (key : T → K) (cmp : K → K → Ordering) where
  -- all items lie below the key
  abbrev pub AllBelow : K → List T → Type 0
  AllBelow k = AllByRecursion (λ x. cmp (key x) k ≡ Less)

  -- all items lie above the key
  abbrev pub AllAbove : K → List T → Type 0
  AllAbove k = AllByRecursion (λ x. cmp k (key x) ≡ Less)

  -- the blocks before one hold what is below the key, and those behind it what is above
  pub record IsCut (k : K) (lists before : List (List T)) (block : List T) (behind : List (List T)) : Type 0 where
    pub parts : lists ≡ before ++ block ∷ behind
    pub below : AllBelow k (joined before)
    pub above : AllAbove k (joined behind)

  -- the same cut for the first of some changes, of which those have their places in the block and the
  -- others behind it
  pub record IsGroup {C : Type 0} (of : C → K) (changes : List C) (lists before : List (List T)) (block : List T) (behind : List (List T)) (those others : List C) : Type 0 where
    pub parts : lists ≡ before ++ block ∷ behind
    pub split : changes ≡ those ++ others
    pub below : AllByRecursion (λ c. AllBelow (of c) (joined before)) changes
    pub above : AllByRecursion (λ c. AllAbove (of c) (joined behind)) those
    pub apart : AllByRecursion (λ c. AllBelow (of c) block) others
