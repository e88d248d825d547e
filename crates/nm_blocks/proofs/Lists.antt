-- Lists of which all elements have something, and lists that strictly rise.
use Rattle.std.proofs.Common.{◌≡◌, Bool, true, false, cond, List, [], ◌∷◌, ◌++◌, refl, ap}
use Rattle.std.specs.List.{AllByRecursion, filter}
use Rattle.std.specs.List.Sorted.{IsStrictlySortedBy}
use Rattle.std.specs.declared.cmp.Ordering.{Ordering}
use Rattle.std.specs.declared.cmp.Ordering.TheVariants.{Less}

module _ {X : Type 0} where
  pub all_weaker : (P Q : X → Type 0) → ((x : X) → P x → Q x) → (xs : List X) → AllByRecursion P xs → AllByRecursion Q xs
  all_weaker P Q f [] all = tt
  all_weaker P Q f (x ∷ xs) all = (f x all.0, all_weaker P Q f xs all.1)

  pub all_front : (P : X → Type 0) (l m : List X) → AllByRecursion P (l ++ m) → AllByRecursion P l
  all_front P [] m all = tt
  all_front P (x ∷ l) m all = (all.0, all_front P l m all.1)

  pub all_back : (P : X → Type 0) (l m : List X) → AllByRecursion P (l ++ m) → AllByRecursion P m
  all_back P [] m all = all
  all_back P (x ∷ l) m all = all_back P l m all.1

  pub all_both : (P : X → Type 0) (l m : List X) → AllByRecursion P l → AllByRecursion P m → AllByRecursion P (l ++ m)
  all_both P [] m all others = others
  all_both P (x ∷ l) m all others = (all.0, all_both P l m all.1 others)

  pub filter_all : (test : X → Bool) (xs : List X) → AllByRecursion (λ x. test x ≡ true) xs → filter test xs ≡ xs
  filter_all test [] all = refl
  filter_all test (x ∷ xs) all = rw all.0 (ap (λ ys. x ∷ ys) (filter_all test xs all.1))

  pub filter_none : (test : X → Bool) (xs : List X) → AllByRecursion (λ x. test x ≡ false) xs → filter test xs ≡ []
  filter_none test [] all = refl
  filter_none test (x ∷ xs) all = rw all.0 (filter_none test xs all.1)

  tested_by : (test : X → Bool) (x : X) (xs : List X) (b : Bool) → test x ≡ b → AllByRecursion (λ y. test y ≡ true) xs → AllByRecursion (λ y. test y ≡ true) (cond b (x ∷ xs) xs)
  tested_by test x xs true e all = (e, all)
  tested_by test x xs false e all = all

  -- a filter keeps what passes
  pub filter_tested : (test : X → Bool) (xs : List X) → AllByRecursion (λ x. test x ≡ true) (filter test xs)
  filter_tested test [] = tt
  filter_tested test (x ∷ xs) = tested_by test x (filter test xs) (test x) refl (filter_tested test xs)

  kept_by : (P : X → Type 0) (x : X) (xs : List X) (b : Bool) → P x → AllByRecursion P xs → AllByRecursion P (cond b (x ∷ xs) xs)
  kept_by P x xs true p all = (p, all)
  kept_by P x xs false p all = all

  pub all_filtered : (P : X → Type 0) (test : X → Bool) (xs : List X) → AllByRecursion P xs → AllByRecursion P (filter test xs)
  all_filtered P test [] all = tt
  all_filtered P test (x ∷ xs) all = kept_by P x (filter test xs) (test x) all.0 (all_filtered P test xs all.1)

  module _ (cmp : X → X → Ordering) where
    -- each of these is below each of those
    abbrev pub Across : List X → List X → Type 0
    Across l m = AllByRecursion (λ x. AllByRecursion (λ y. cmp x y ≡ Less) m) l

    pub rising_front : (l m : List X) → IsStrictlySortedBy cmp (l ++ m) → IsStrictlySortedBy cmp l
    unfolding IsStrictlySortedBy
    rising_front [] m s = tt
    rising_front (x ∷ l) m s = (all_front _ l m s.0, rising_front l m s.1)

    pub rising_back : (l m : List X) → IsStrictlySortedBy cmp (l ++ m) → IsStrictlySortedBy cmp m
    unfolding IsStrictlySortedBy
    rising_back [] m s = s
    rising_back (x ∷ l) m s = rising_back l m s.1

    pub rising_across : (l m : List X) → IsStrictlySortedBy cmp (l ++ m) → Across l m
    unfolding IsStrictlySortedBy
    rising_across [] m s = tt
    rising_across (x ∷ l) m s = (all_back _ l m s.0, rising_across l m s.1)

    pub rising_both : (l m : List X) → IsStrictlySortedBy cmp l → IsStrictlySortedBy cmp m → Across l m → IsStrictlySortedBy cmp (l ++ m)
    unfolding IsStrictlySortedBy
    rising_both [] m s t across = t
    rising_both (x ∷ l) m s t across = (all_both _ l m s.0 across.0, rising_both l m s.1 t across.1)

    pub rising_first : (x : X) (xs : List X) → IsStrictlySortedBy cmp (x ∷ xs) → AllByRecursion (λ y. cmp x y ≡ Less) xs
    unfolding IsStrictlySortedBy
    rising_first x xs s = s.0

    pub rising_others : (x : X) (xs : List X) → IsStrictlySortedBy cmp (x ∷ xs) → IsStrictlySortedBy cmp xs
    unfolding IsStrictlySortedBy
    rising_others x xs s = s.1

    pub rising_none : IsStrictlySortedBy cmp []
    unfolding IsStrictlySortedBy
    rising_none = tt

    pub rising_more : (x : X) (xs : List X) → AllByRecursion (λ y. cmp x y ≡ Less) xs → IsStrictlySortedBy cmp xs → IsStrictlySortedBy cmp (x ∷ xs)
    unfolding IsStrictlySortedBy
    rising_more x xs above s = (above, s)
