-- A choice of items by what they are seen as.
use Rattle.std.proofs.Common.{◌≡◌, List, [], ◌∷◌, Bool, true, false, cond, map, refl, ap}
use Rattle.std.specs.List.{filter}

pub filter-map : {X Y : Type 0} (test : X → Bool) (view : Y → X) (ys : List Y) → map view (filter (λ y. test (view y)) ys) ≡ filter test (map view ys)
filter-map test view [] = refl
filter-map test view (y ∷ ys) = by (filter-map test view ys) (test (view y))
  where
    by : map view (filter (λ y. test (view y)) ys) ≡ filter test (map view ys) → (b : Bool)
        → map view (cond b (y ∷ filter (λ y. test (view y)) ys) (filter (λ y. test (view y)) ys)) ≡ cond b (view y ∷ filter test (map view ys)) (filter test (map view ys))
    by h true = ap (λ l. view y ∷ l) h
    by h false = h
