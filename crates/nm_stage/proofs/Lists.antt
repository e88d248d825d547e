-- Lists of ids, and what lists of shared items are seen as.
use Rattle.std.proofs.Common.{◌≡◌, ◌↔◌, ℕ, List, [], ◌∷◌, Bool, true, IsTrue, Contains, map, nat_eq, ◌||◌, refl, ap, arith}
use Rattle.std.proofs.lemmas.Bool.Decides.{nat_tests}
use Rattle.std.proofs.lemmas.Map.Views.{Contains-from_any, list_any-from_Contains}
use Rattle.std.specs.Cmp.{IsEquivalence}
use Rattle.std.specs.List.{list_any}
use Rattle.nm_ident.proofs.Rising.{same_answers}
use Rattle.nm_stage.specs.Project.{has_id}

pub numbers_same : (x y : ℕ) → nat_eq x y ≡ true → x ≡ y
numbers_same x y h = grind (arith, nat_tests)

pub numbers_laws : IsEquivalence nat_eq
numbers_laws = record {
  refl = λ x. grind (arith, nat_tests);
  symm = λ x y. grind (arith, nat_tests);
  congr = λ x y z h. ap (λ n. nat_eq n z) (numbers_same x y h);
}

pub has_id-is : (ids : List ℕ) (id : ℕ) (b : Bool) → (IsTrue b ↔ Contains ids id) → b ≡ has_id ids id
has_id-is ids id b told =
    same_answers b (has_id ids id)
    (λ h. list_any-from_Contains numbers_laws id ids (told.0 h))
    (λ h. told.1 (Contains-from_any numbers_same id ids h))

-- a test of what items are seen as
module _ {X Y : Type 0} (test : X → Bool) (view : Y → X) where
  pub list_any-map : (ys : List Y) → list_any (λ y. test (view y)) ys ≡ list_any test (map view ys)
  list_any-map [] = refl
  list_any-map (y ∷ ys) = ap (λ b. test (view y) || b) (list_any-map ys)

pub map-map : {X Y Z : Type 0} (f : Y → Z) (g : X → Y) (xs : List X) → map (λ x. f (g x)) xs ≡ map f (map g xs)
map-map f g [] = refl
map-map f g (x ∷ xs) = ap (λ l. f (g x) ∷ l) (map-map f g xs)
