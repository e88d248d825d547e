-- The first item of a rising list is the least of the first items of each kind.
use Rattle.std.proofs.Common.{◌≡◌, ◌∙◌, ◌⊎◌, inl, inr, List, [], ◌∷◌, ◌++◌, Bool, true, false, ◌||◌, cond, if◌then◌else◌, Option, None, Some, Ordering, refl, sym, ap, subst}
use Rattle.std.specs.Cmp.{IsTotalOrder}
use Rattle.std.specs.List.{AllByRecursion, find, flat_map, list_any}
use Rattle.std.specs.List.Sorted.{IsStrictlySortedBy}
use Rattle.std.specs.Option.{option_to_list}
use Rattle.std.specs.Ordering.{is_gt, ordering_reverse}
use Rattle.std.specs.declared.cmp.Ordering.TheVariants.{Less, Greater}
use Rattle.nm_check.specs.Breaks.{first_of}

module _ {X : Type 0} {R : X → X → Ordering} (o : IsTotalOrder R) where
  abbrev pub lesser : X → Option X → X
  lesser x None = x
  lesser x (Some y) = if is_gt (R x y) then y else x

  abbrev pub least : List X → Option X
  least [] = None
  least (x ∷ xs) = Some (lesser x (least xs))

  -- each item is x or above it
  abbrev pub AllFrom : X → List X → Type 0
  AllFrom x ys = AllByRecursion (λ y. (y ≡ x) ⊎ (R x y ≡ Less)) ys

  abbrev pub Among : List X → X → Type 0
  Among [] x = ⊥
  Among (y ∷ ys) x = (y ≡ x) ⊎ Among ys x

  -- of items from x on, the least is x or above it
  least_from : (x : X) (ys : List X) → AllFrom x ys → (m : X) → least ys ≡ Some m → (m ≡ x) ⊎ (R x m ≡ Less)
  least_from x [] a m e = absurd (let wrong = e in cc)
  least_from x (y ∷ ys) a m e = by (least ys) (least_from x ys a.1) e
    where
      is : (n : X) → Some n ≡ Some m → n ≡ m
      is n f = cc

      by : (l : Option X) → ((k : X) → l ≡ Some k → (k ≡ x) ⊎ (R x k ≡ Less)) → Some (lesser y l) ≡ Some m → (m ≡ x) ⊎ (R x m ≡ Less)
      by None later f = subst (λ (k : X). (k ≡ x) ⊎ (R x k ≡ Less)) (is y f) a.0
      by (Some k) later f = choose (is_gt (R y k)) f
        where
          choose : (b : Bool) → Some (if b then k else y) ≡ Some m → (m ≡ x) ⊎ (R x m ≡ Less)
          choose true g = subst (λ (n : X). (n ≡ x) ⊎ (R x n ≡ Less)) (is k g) (later k refl)
          choose false g = subst (λ (n : X). (n ≡ x) ⊎ (R x n ≡ Less)) (is y g) a.0

  either : (b : Bool) (k y x : X) → k ≡ x → y ≡ x → (if b then k else y) ≡ x
  either true k y x e f = e
  either false k y x e f = f

  -- the least is x, where x is one of the items and all are from x on
  pub least_is : (x : X) (ys : List X) → AllFrom x ys → Among ys x → least ys ≡ Some x
  least_is x [] a m = absurd m
  least_is x (y ∷ ys) a (inl same) = ap Some (by (least ys) (least_from x ys a.1))
    where
      by : (l : Option X) → ((k : X) → l ≡ Some k → (k ≡ x) ⊎ (R x k ≡ Less)) → lesser y l ≡ x
      by None later = same
      by (Some k) later =
          elim (later k refl) [
            | inl level ↦ either (is_gt (R y k)) k y x level same
            | inr less ↦ (let below : R y k ≡ Less = ap (λ z. R z k) same ∙ less in (λ i. if is_gt (below i) then k else y) ∙ same)
          ]
  least_is x (y ∷ ys) a (inr among) =
      ap (λ l. Some (lesser y l)) (least_is x ys a.1 among)
      ∙ ap Some (elim a.0 [
        | inl same ↦ either (is_gt (R y x)) x y x refl same
        | inr less ↦ (let above : R y x ≡ Greater = o.antisymm y x ∙ ap ordering_reverse less in (λ i. if is_gt (above i) then x else y))
      ])

  -- ---- the first items of each kind

  module _ {S : Type 0} (belongs : S → X → Bool) where
    -- of each of these kinds the first item, where there is one
    abbrev pub firsts : List X → List S → List X
    firsts xs ss = flat_map (λ s. option_to_list (find (belongs s) xs)) ss

    none_first : (ss : List S) → firsts [] ss ≡ []
    none_first [] = refl
    none_first (s ∷ ss) = none_first ss

    from_append : (x : X) (ys zs : List X) → AllFrom x ys → AllFrom x zs → AllFrom x (ys ++ zs)
    from_append x [] zs a b = b
    from_append x (y ∷ ys) zs a b = (a.0, from_append x ys zs a.1 b)

    among_back : (x : X) (ys zs : List X) → Among zs x → Among (ys ++ zs) x
    among_back x [] zs m = m
    among_back x (y ∷ ys) zs m = inr (among_back x ys zs m)

    found_above : (x : X) (p : X → Bool) (xs : List X) → AllByRecursion (λ y. R x y ≡ Less) xs → AllFrom x (option_to_list (find p xs))
    found_above x p [] a = tt
    found_above x p (y ∷ ys) a = by (found_above x p ys a.1) (p y)
      where
        by : AllFrom x (option_to_list (find p ys)) → (b : Bool) → AllFrom x (option_to_list (cond b (Some y) (find p ys)))
        by h true = (inr a.0, tt)
        by h false = h

    module _ (x : X) (xs : List X) (above : AllByRecursion (λ y. R x y ≡ Less) xs) where
      found_from : (p : X → Bool) → AllFrom x (option_to_list (find p (x ∷ xs)))
      found_from p = by (found_above x p xs above) (p x)
        where
          by : AllFrom x (option_to_list (find p xs)) → (b : Bool) → AllFrom x (option_to_list (cond b (Some x) (find p xs)))
          by h true = (inl refl, tt)
          by h false = h

      firsts_from : (ss : List S) → AllFrom x (firsts (x ∷ xs) ss)
      firsts_from [] = tt
      firsts_from (s ∷ ss) = from_append x (option_to_list (find (belongs s) (x ∷ xs))) (firsts (x ∷ xs) ss) (found_from (belongs s)) (firsts_from ss)

      first_among : (ss : List S) → list_any (λ s. belongs s x) ss ≡ true → Among (firsts (x ∷ xs) ss) x
      first_among [] e = absurd (let wrong = e in cc)
      first_among (s ∷ ss) e = by (first_among ss) (belongs s x) e
        where
          by : (list_any (λ t. belongs t x) ss ≡ true → Among (firsts (x ∷ xs) ss) x) → (b : Bool) → (b || list_any (λ t. belongs t x) ss) ≡ true
              → Among (option_to_list (cond b (Some x) (find (belongs s) xs)) ++ firsts (x ∷ xs) ss) x
          by later true f = inl refl
          by later false f = among_back x (option_to_list (find (belongs s) xs)) (firsts (x ∷ xs) ss) (later f)

    -- the first of all is the least of them, where each item is of one of the kinds
    pub first_is_least : (xs : List X) (ss : List S) → IsStrictlySortedBy R xs → AllByRecursion (λ x. list_any (λ s. belongs s x) ss ≡ true) xs
        → first_of xs ≡ least (firsts xs ss)
    unfolding IsStrictlySortedBy
    first_is_least [] ss rising named = ap least (sym (none_first ss))
    first_is_least (x ∷ xs) ss rising named =
        sym (least_is x (firsts (x ∷ xs) ss) (firsts_from x xs rising.0 ss) (first_among x xs rising.0 ss named.0))
