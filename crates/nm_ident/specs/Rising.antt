-- Lists that strictly rise by an order.
use Rattle.std.specs.Prelude.{List, [], ◌∷◌, Bool, true, ◌&&◌}
use Rattle.std.specs.BTreeSet.{insert_key}
use Rattle.std.specs.Ordering.{is_lt}
use Rattle.std.specs.declared.cmp.Ordering.{Ordering}

-- whether each item is below the next
abbrev pub is_rising_by : {K : Type 0} → (K → K → Ordering) → List K → Bool
is_rising_by cmp [] = true
is_rising_by cmp (item ∷ []) = true
is_rising_by cmp (item ∷ next ∷ items) = is_lt (cmp item next) && is_rising_by cmp (next ∷ items)

-- the items in order, each once
abbrev pub rising_by : {K : Type 0} → (K → K → Ordering) → List K → List K
rising_by cmp [] = []
rising_by cmp (item ∷ items) = insert_key cmp (rising_by cmp items) item
