-- Lists of items whose keys strictly rise, what stands at a key, and what a change leaves of them.
use Rattle.std.specs.Prelude.{Bool, true, List, [], ◌∷◌, ◌++◌, Option, not, if◌then◌else◌}
use Rattle.std.specs.List.{filter, find}
use Rattle.std.specs.List.Sorted.{IsStrictlySortedBy}
use Rattle.std.specs.Ordering.{is_eq, is_gt, is_le, is_lt}
use Rattle.std.specs.declared.cmp.Ordering.{Ordering}

module _ {T K : Type 0} (key : T → K) (cmp : K → K → Ordering) where
  -- items in the order of their keys
  abbrev pub item_cmp : T → T → Ordering
  item_cmp x y = cmp (key x) (key y)

  -- the key of each is below those after it
  abbrev pub IsRising : List T → Type 0
  IsRising items = IsStrictlySortedBy item_cmp items

  -- whether an item lies below the key
  abbrev pub is_below : K → T → Bool
  is_below k x = is_lt (cmp (key x) k)

  -- whether the last of some items lies below the key, or there is none
  abbrev pub ends_below : K → List T → Bool
  ends_below k [] = true
  ends_below k (x ∷ []) = is_below k x
  ends_below k (x ∷ y ∷ others) = ends_below k (y ∷ others)

  -- what is left of some items, none of which is below the key, behind it
  abbrev pub behind_of : K → List T → List T
  behind_of k [] = []
  behind_of k (x ∷ others) = if is_eq (cmp k (key x)) then others else (x ∷ others)

  -- whether a key lies at the key or below it
  abbrev pub is_up_to : K → T → Bool
  is_up_to k x = is_le (cmp (key x) k)

  -- the items whose keys are below the key
  abbrev pub items_below : K → List T → List T
  items_below k = filter (λ x. is_gt (cmp k (key x)))

  -- the items whose keys are above the key
  abbrev pub items_above : K → List T → List T
  items_above k = filter (λ x. is_lt (cmp k (key x)))

  -- the item at the key
  abbrev pub item_at : K → List T → Option T
  item_at k = find (λ x. is_eq (cmp k (key x)))

  -- the first item whose key is not below the key
  abbrev pub first_from : K → List T → Option T
  first_from k = find (λ x. not (is_below k x))

  -- the items with this one at its place, where it takes that of an item with an equal key
  abbrev pub with_item : T → List T → List T
  with_item item items = items_below (key item) items ++ item ∷ items_above (key item) items

  -- the items with another key
  abbrev pub without : K → List T → List T
  without k = filter (λ x. not (is_eq (cmp k (key x))))

  -- the items with each of these at its place
  abbrev pub with_all : List T → List T → List T
  with_all [] items = items
  with_all (item ∷ others) items = with_all others (with_item item items)

  -- the items whose keys are none of these
  abbrev pub without_all : List K → List T → List T
  without_all [] items = items
  without_all (k ∷ others) items = without_all others (without k items)
