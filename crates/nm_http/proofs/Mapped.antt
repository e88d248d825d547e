-- Tests of lists whose items are seen by another value.
use Rattle.std.proofs.Common.{◌≡◌, Bool, true, false, List, [], ◌∷◌, refl}
use Rattle.std.specs.Prelude.{find, map}
use Rattle.std.specs.List.{list_any}
use Rattle.std.specs.Option.{option_map}

pub list_any_map : {X Y : Type 0} (test : Y → Bool) (view : X → Y) (items : List X) → list_any test (map view items) ≡ list_any (λ item. test (view item)) items
list_any_map test view [] = refl
list_any_map test view (item ∷ items) = rw (list_any_map test view items) refl

pub find_map : {X Y : Type 0} (test : Y → Bool) (view : X → Y) (items : List X) → find test (map view items) ≡ option_map view (find (λ item. test (view item)) items)
find_map test view [] = refl
find_map {X} {Y} test view (item ∷ items) = by (test (view item)) refl (find_map test view items)
  where
    by : (passes : Bool) → test (view item) ≡ passes → find test (map view items) ≡ option_map view (find (λ one. test (view one)) items)
        → find test (map view (item ∷ items)) ≡ option_map view (find (λ one. test (view one)) (item ∷ items))
    by true is others = rw is refl
    by false is others = rw is others
