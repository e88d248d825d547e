-- A list in order, with all of its items.
use Rattle.std.specs.Prelude.{List, [], ◌∷◌, if◌then◌else◌}
use Rattle.std.specs.Ordering.{is_gt}
use Rattle.std.specs.declared.cmp.Ordering.{Ordering}

-- the item at its place, before all that are not below it
abbrev pub placed_by : {K : Type 0} → (K → K → Ordering) → List K → K → List K
placed_by cmp [] item = item ∷ []
placed_by cmp (x ∷ xs) item = if is_gt (cmp item x) then x ∷ placed_by cmp xs item else item ∷ x ∷ xs

abbrev pub sorted_by : {K : Type 0} → (K → K → Ordering) → List K → List K
sorted_by cmp [] = []
sorted_by cmp (item ∷ items) = placed_by cmp (sorted_by cmp items) item
