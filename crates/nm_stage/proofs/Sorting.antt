-- A sort of items whose keys differ is the list that insertion makes, whichever item is inserted first.
use Rattle.std.proofs.Common.{◌≡◌, ◌∙◌, ◌⊎◌, ⊎_elim, inl, inr, List, [], ◌∷◌, Bool, true, false, cond, IsPermutation, Ordering, map, refl, sym, ap, subst}
use Rattle.std.proofs.lemmas.Cmp.{tied_itself}
use Rattle.std.proofs.lemmas.List.Elements.{All-from_recursion, All-head, All-tail}
use Rattle.std.proofs.lemmas.List.Kept.{IsStrictlySortedBy-dedup}
use Rattle.std.proofs.lemmas.List.Sorted.{All-permutation, IsPermutation-append_comm, IsPermutation-append_left, IsPermutation-cons, IsPermutation-refl, IsPermutation-sym, IsPermutation-trans}
use Rattle.std.proofs.lemmas.Map.Keys.{IsDistinct-IsPermutation}
use Rattle.std.specs.BTreeSet.{insert_key}
use Rattle.std.specs.Cmp.{IsTotalOrder}
use Rattle.std.specs.List.{All, AllByRecursion, IsDistinct, dedup, dedup_from}
use Rattle.std.specs.List.Sorted.{IsSorted, IsStrictlySortedBy}
use Rattle.std.specs.Ordering.{eq_by_cmp, is_eq, is_gt, match_ordering, ordering_reverse}
use Rattle.std.specs.declared.cmp.Ordering.TheVariants.{Less, Equal, Greater}
use Rattle.nm_ident.proofs.Rising.{rising_of, rising-rising_of}
use Rattle.nm_stage.specs.Sorted.{placed_by, sorted_by}

module _ {K : Type 0} where
  -- the item is one of the list
  abbrev Among : List K → K → Type 0
  Among [] x = ⊥
  Among (y ∷ ys) x = (x ≡ y) ⊎ Among ys x

  pub all_recursively : (P : K → Type 0) (xs : List K) → All P xs → AllByRecursion P xs
  all_recursively P [] a = tt
  all_recursively P (x ∷ xs) a = (All-head P x xs a, all_recursively P xs (All-tail P x xs a))

  weaken : (P Q : K → Type 0) → ((x : K) → P x → Q x) → (xs : List K) → AllByRecursion P xs → AllByRecursion Q xs
  weaken P Q f [] a = tt
  weaken P Q f (x ∷ xs) a = (f x a.0, weaken P Q f xs a.1)

  pub both : (P Q S : K → Type 0) → ((x : K) → P x → Q x → S x) → (xs : List K) → AllByRecursion P xs → AllByRecursion Q xs → AllByRecursion S xs
  both P Q S f [] a b = tt
  both P Q S f (x ∷ xs) a b = (f x a.0 b.0, both P Q S f xs a.1 b.1)

  at_among : (P : K → Type 0) (xs : List K) (x : K) → AllByRecursion P xs → Among xs x → P x
  at_among P [] x a m = absurd m
  at_among P (y ∷ ys) x a m = ⊎_elim (λ e. subst P (sym e) a.0) (λ n. at_among P ys x a.1 n) m

  own_members : (xs : List K) → AllByRecursion (Among xs) xs
  own_members [] = tt
  own_members (x ∷ xs) = (inl refl, weaken (Among xs) (Among (x ∷ xs)) (λ y m. inr m) xs (own_members xs))

  moved_members : (xs ys : List K) → IsPermutation xs ys → AllByRecursion (Among xs) ys
  moved_members xs ys moved = all_recursively (Among xs) ys (All-permutation (Among xs) xs ys moved (All-from_recursion (Among xs) xs (own_members xs)))

module _ {K : Type 0} {R : K → K → Ordering} (o : IsTotalOrder R) where
  flips : (x y : K) → eq_by_cmp R x y ≡ eq_by_cmp R y x
  flips x y = ap is_eq (o.antisymm x y) ∙ turned (R y x)
    where
      turned : (r : Ordering) → is_eq (ordering_reverse r) ≡ is_eq r
      turned Less = refl
      turned Equal = refl
      turned Greater = refl

  not_below_itself : (x : K) → R x x ≡ Less → ⊥
  not_below_itself x e = let tie : R x x ≡ Equal = tied_itself o x in cc

  not_both_below : (x y : K) → R x y ≡ Less → R y x ≡ Less → ⊥
  not_both_below x y e f = not_below_itself x (o.trans x y x e f)

  -- a `dedup` leaves items that differ
  dedup_from-distinct : (k : K) (xs : List K) → IsDistinct (eq_by_cmp R) (k ∷ xs) → dedup_from (eq_by_cmp R) k xs ≡ k ∷ xs
  unfolding IsDistinct
  dedup_from-distinct k [] d = refl
  dedup_from-distinct k (x ∷ xs) d =
      let differs : eq_by_cmp R x k ≡ false = flips x k ∙ d.0.0 in
      (λ i. cond (differs i) (dedup_from (eq_by_cmp R) k xs) (k ∷ dedup_from (eq_by_cmp R) x xs))
      ∙ ap (λ l. k ∷ l) (dedup_from-distinct x xs d.1)

  dedup-distinct : (xs : List K) → IsDistinct (eq_by_cmp R) xs → dedup (eq_by_cmp R) xs ≡ xs
  dedup-distinct [] d = refl
  dedup-distinct (x ∷ xs) d = dedup_from-distinct x xs d

  rises : (xs : List K) → IsSorted R xs → IsDistinct (eq_by_cmp R) xs → IsStrictlySortedBy R xs
  rises xs sorted d = subst (IsStrictlySortedBy R) (dedup-distinct xs d) (IsStrictlySortedBy-dedup o (λ x y. refl) xs sorted)

  -- rising lists with the same items are one list
  one_list : (xs ys : List K) → IsStrictlySortedBy R xs → IsStrictlySortedBy R ys → AllByRecursion (Among ys) xs → AllByRecursion (Among xs) ys → xs ≡ ys
  unfolding IsStrictlySortedBy
  one_list [] [] s t a b = refl
  one_list [] (y ∷ ys) s t a b = absurd b.0
  one_list (x ∷ xs) [] s t a b = absurd a.0
  one_list (x ∷ xs) (y ∷ ys) s t a b =
      let first : x ≡ y =
      ⊎_elim (λ e. e)
      (λ m. ⊎_elim (λ e. sym e)
      (λ n. absurd (not_both_below x y (at_among (λ z. R x z ≡ Less) xs y s.0 n) (at_among (λ z. R y z ≡ Less) ys x t.0 m))) b.0) a.0
      in
      let others : xs ≡ ys =
      one_list xs ys s.1 t.1
      (both (λ z. R x z ≡ Less) (Among (y ∷ ys)) (Among ys)
      (λ z e m. ⊎_elim (λ same. absurd (not_below_itself x (subst (λ w. R x w ≡ Less) (same ∙ sym first) e))) (λ n. n) m) xs s.0 a.1)
      (both (λ z. R y z ≡ Less) (Among (x ∷ xs)) (Among xs)
      (λ z e m. ⊎_elim (λ same. absurd (not_below_itself y (subst (λ w. R y w ≡ Less) (same ∙ first) e))) (λ n. n) m) ys t.0 b.1)
      in
      λ i. first i ∷ others i

  -- an insertion moves items, where none is level with the new one
  inserted : (xs : List K) (k : K) → AllByRecursion (λ x. eq_by_cmp R k x ≡ false) xs → IsPermutation (k ∷ xs) (insert_key R xs k)
  inserted [] k d = IsPermutation-refl (k ∷ [])
  inserted (x ∷ xs) k d = by (inserted xs k d.1) (R k x) d.0
    where
      by : IsPermutation (k ∷ xs) (insert_key R xs k) → (r : Ordering) → is_eq r ≡ false → IsPermutation (k ∷ x ∷ xs) (match_ordering r (k ∷ x ∷ xs) (x ∷ xs) (x ∷ insert_key R xs k))
      by h Less e = IsPermutation-refl (k ∷ x ∷ xs)
      by h Equal e = absurd (let wrong = e in cc)
      by h Greater e =
          IsPermutation-trans (k ∷ x ∷ xs) (x ∷ k ∷ xs) (x ∷ insert_key R xs k)
          (IsPermutation-append_left xs (k ∷ x ∷ []) (x ∷ k ∷ []) (IsPermutation-append_comm (k ∷ []) (x ∷ [])))
          (IsPermutation-cons x (k ∷ xs) (insert_key R xs k) h)

  moved_by_insertion : (xs : List K) → IsDistinct (eq_by_cmp R) xs → IsPermutation xs (rising_of o xs)
  unfolding IsDistinct
  moved_by_insertion [] d = IsPermutation-refl []
  moved_by_insertion (x ∷ xs) d =
      let others = moved_by_insertion xs d.1 in
      IsPermutation-trans (x ∷ xs) (x ∷ rising_of o xs) (rising_of o (x ∷ xs))
      (IsPermutation-cons x xs (rising_of o xs) others)
      (inserted (rising_of o xs) x (all_recursively (λ y. eq_by_cmp R x y ≡ false) (rising_of o xs)
      (All-permutation (λ y. eq_by_cmp R x y ≡ false) xs (rising_of o xs) others (All-from_recursion (λ y. eq_by_cmp R x y ≡ false) xs d.0))))

  -- a sort, where no two items are level
  pub sort_is : (xs ys : List K) → IsPermutation xs ys → IsSorted R ys → IsDistinct (eq_by_cmp R) xs → ys ≡ rising_of o xs
  sort_is xs ys moved sorted d =
      let made = moved_by_insertion xs d in
      let back = IsPermutation-trans ys xs (rising_of o xs) (IsPermutation-sym xs ys moved) made in
      one_list ys (rising_of o xs)
      (rises ys sorted (IsDistinct-IsPermutation (eq_by_cmp R) flips xs ys moved d)) (rising-rising_of o xs)
      (moved_members (rising_of o xs) ys (IsPermutation-sym ys (rising_of o xs) back))
      (moved_members ys (rising_of o xs) back)

  -- where none is level with the new item, an insertion that keeps all items is one that keeps each once
  pub placed_is : (xs : List K) (k : K) → AllByRecursion (λ x. eq_by_cmp R k x ≡ false) xs → placed_by R xs k ≡ insert_key R xs k
  placed_is [] k d = refl
  placed_is (x ∷ xs) k d = by (placed_is xs k d.1) (R k x) d.0
    where
      by : placed_by R xs k ≡ insert_key R xs k → (r : Ordering) → is_eq r ≡ false
          → cond (is_gt r) (x ∷ placed_by R xs k) (k ∷ x ∷ xs) ≡ match_ordering r (k ∷ x ∷ xs) (x ∷ xs) (x ∷ insert_key R xs k)
      by h Less e = refl
      by h Equal e = absurd (let wrong = e in cc)
      by h Greater e = ap (λ l. x ∷ l) h

  pub sorted_is : (xs : List K) → IsDistinct (eq_by_cmp R) xs → sorted_by R xs ≡ rising_of o xs
  unfolding IsDistinct
  sorted_is [] d = refl
  sorted_is (x ∷ xs) d =
      ap (λ ys. placed_by R ys x) (sorted_is xs d.1)
      ∙ placed_is (rising_of o xs) x
      (all_recursively (λ y. eq_by_cmp R x y ≡ false) (rising_of o xs)
      (All-permutation (λ y. eq_by_cmp R x y ≡ false) xs (rising_of o xs) (moved_by_insertion xs d.1) (All-from_recursion (λ y. eq_by_cmp R x y ≡ false) xs d.0)))

  placed : (xs : List K) (k : K) → IsPermutation (k ∷ xs) (placed_by R xs k)
  placed [] k = IsPermutation-refl (k ∷ [])
  placed (x ∷ xs) k = by (placed xs k) (is_gt (R k x))
    where
      by : IsPermutation (k ∷ xs) (placed_by R xs k) → (b : Bool) → IsPermutation (k ∷ x ∷ xs) (cond b (x ∷ placed_by R xs k) (k ∷ x ∷ xs))
      by h false = IsPermutation-refl (k ∷ x ∷ xs)
      by h true =
          IsPermutation-trans (k ∷ x ∷ xs) (x ∷ k ∷ xs) (x ∷ placed_by R xs k)
          (IsPermutation-append_left xs (k ∷ x ∷ []) (x ∷ k ∷ []) (IsPermutation-append_comm (k ∷ []) (x ∷ [])))
          (IsPermutation-cons x (k ∷ xs) (placed_by R xs k) h)

  -- a list in order has all of its items
  pub moved_by_sort : (xs : List K) → IsPermutation xs (sorted_by R xs)
  moved_by_sort [] = IsPermutation-refl []
  moved_by_sort (x ∷ xs) =
      IsPermutation-trans (x ∷ xs) (x ∷ sorted_by R xs) (sorted_by R (x ∷ xs))
      (IsPermutation-cons x xs (sorted_by R xs) (moved_by_sort xs)) (placed (sorted_by R xs) x)

  -- insertion of what items are seen as
  module _ {B : Type 0} (view : B → K) where
    abbrev pub by_view : B → B → Ordering
    by_view x y = R (view x) (view y)

    pub map-insert_key : (xs : List B) (k : B) → map view (insert_key by_view xs k) ≡ insert_key R (map view xs) (view k)
    map-insert_key [] k = refl
    map-insert_key (x ∷ xs) k = by (map-insert_key xs k) (R (view k) (view x))
      where
        by : map view (insert_key by_view xs k) ≡ insert_key R (map view xs) (view k) → (r : Ordering)
            → map view (match_ordering r (k ∷ x ∷ xs) (x ∷ xs) (x ∷ insert_key by_view xs k)) ≡ match_ordering r (view k ∷ view x ∷ map view xs) (view x ∷ map view xs) (view x ∷ insert_key R (map view xs) (view k))
        by h Less = refl
        by h Equal = refl
        by h Greater = ap (λ l. view x ∷ l) h
