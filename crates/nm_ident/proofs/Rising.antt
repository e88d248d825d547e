-- Lists that strictly rise by an order that tells all items apart.
use Rattle.std.proofs.Common.{◌≡◌, ℕ, suc, ◌+◌, take, drop, arith, List, [], ◌∷◌, ◌++◌, Bool, true, false, not, ◌||◌, ◌&&◌, cond, if◌then◌else◌, Ordering, sym, ◌∙◌, ap, refl, subst}
use Rattle.std.specs.declared.cmp.Ordering.TheVariants.{Less, Equal, Greater}
use Rattle.std.specs.Ordering.{eq_by_cmp, match_ordering, is_eq, is_ge, is_lt, ordering_reverse}
use Rattle.std.specs.Cmp.{IsTotalOrder}
use Rattle.std.specs.List.{AllByRecursion, list_any, filter, dedup, position_or_len}
use Rattle.std.specs.List.Sorted.{IsStrictlySortedBy}
use Rattle.std.specs.BTreeSet.{BTreeSet, insert_key}
use Rattle.nm_ident.specs.Rising.{is_rising_by, rising_by}
use Rattle.std.specs.List.Sorted.{IsSorted}
use Rattle.std.specs.Prelude.{IsPermutation}
use Rattle.std.proofs.lemmas.List.Sorted.{list_any-IsPermutation}
use Rattle.std.proofs.lemmas.Cmp.{alike_right, tied_itself, eq_by_cmp_equiv}
use Rattle.std.proofs.lemmas.List.Folds.{list_any-append}
use Rattle.std.proofs.lemmas.List.Kept.{IsStrictlySortedBy-dedup, Contains-dedup, Contains-from_dedup}
use Rattle.std.proofs.lemmas.Map.Views.{Contains-from_any, list_any-from_Contains, tells_apart}
use Rattle.std.proofs.lemmas.Map.Lookups.{CmpEqualImpliesEq, btree_set_from_contains}

or_again : (a b c : Bool) → a ≡ b → (a || c) ≡ (b || (a || c))
or_again a true c e = ap (λ x. x || c) e
or_again a false c e = refl

pub or_swap : (a b c : Bool) → (a || (b || c)) ≡ (b || (a || c))
or_swap true true c = refl
or_swap true false c = refl
or_swap false b c = refl

pub same_answers : (s t : Bool) → (s ≡ true → t ≡ true) → (t ≡ true → s ≡ true) → s ≡ t
same_answers true t f g = sym (f refl)
same_answers false true f g = g refl
same_answers false false f g = refl

-- what either of two lists has, where the second begins with x or not
or_around : (b x l a : Bool) (found : Bool) → (b || (x || (l || a))) ≡ ((x || l) || (b || cond found (x || a) a))
or_around true true l a found = refl
or_around true false true a found = refl
or_around true false false a found = refl
or_around false true l a found = refl
or_around false false true a found = refl
or_around false false false a true = refl
or_around false false false a false = refl

pub one_plus : (n : ℕ) → 1 + n ≡ suc n
one_plus n = omega arith

not_not : (b : Bool) → not b ≡ false → b ≡ true
not_not true h = refl
not_not false h = cc

module _ {K : Type 0} where
  same_head : {x y : K} {xs ys : List K} → x ∷ xs ≡ y ∷ ys → x ≡ y
  same_head e = cc

  pub all_append : (P : K → Type 0) (xs ys : List K) → AllByRecursion P xs → AllByRecursion P ys → AllByRecursion P (xs ++ ys)
  all_append P [] ys a b = b
  all_append P (x ∷ xs) ys a b = (a.0, all_append P xs ys a.1 b)

  pub all_weaker : (P Q : K → Type 0) → ((x : K) → P x → Q x) → (xs : List K) → AllByRecursion P xs → AllByRecursion Q xs
  all_weaker P Q f [] a = tt
  all_weaker P Q f (x ∷ xs) a = (f x a.0, all_weaker P Q f xs a.1)

  -- tests that agree at each item keep the same items
  pub filter_alike : (p q : K → Bool) (xs : List K) → AllByRecursion (λ x. p x ≡ q x) xs → filter p xs ≡ filter q xs
  filter_alike p q [] a = refl
  filter_alike p q (x ∷ xs) a = λ i. cond (a.0 i) (x ∷ filter_alike p q xs a.1 i) (filter_alike p q xs a.1 i)

module _ {K : Type 0} {R : K → K → Ordering} (o : IsTotalOrder R) where
  abbrev pub has_by : List K → K → Bool
  has_by xs k = list_any (eq_by_cmp R k) xs

  -- an insertion adds the item and nothing else
  pub has-insert_key : (xs : List K) (k q : K) → has_by (insert_key R xs k) q ≡ (eq_by_cmp R q k || has_by xs q)
  has-insert_key [] k q = refl
  has-insert_key (x ∷ xs) k q = by (has-insert_key xs k q) (R k x) refl
    where
      by : has_by (insert_key R xs k) q ≡ (eq_by_cmp R q k || has_by xs q) → (r : Ordering) → R k x ≡ r
          → has_by (match_ordering r (k ∷ x ∷ xs) (x ∷ xs) (x ∷ insert_key R xs k)) q ≡ (eq_by_cmp R q k || has_by (x ∷ xs) q)
      by h Less e = refl
      by h Equal e = or_again (eq_by_cmp R q x) (eq_by_cmp R q k) (has_by xs q) (ap is_eq (sym (alike_right o k x q e)))
      by h Greater e = ap (λ b. eq_by_cmp R q x || b) h ∙ or_swap (eq_by_cmp R q x) (eq_by_cmp R q k) (has_by xs q)

  all_inserted : (P : K → Type 0) (xs : List K) (k : K) → P k → AllByRecursion P xs → AllByRecursion P (insert_key R xs k)
  all_inserted P [] k p a = (p, tt)
  all_inserted P (x ∷ xs) k p a = by (all_inserted P xs k p a.1) (R k x)
    where
      by : AllByRecursion P (insert_key R xs k) → (r : Ordering) → AllByRecursion P (match_ordering r (k ∷ x ∷ xs) (x ∷ xs) (x ∷ insert_key R xs k))
      by h Less = (p, a)
      by h Equal = a
      by h Greater = (a.0, h)

  pub turned : (k x : K) → R k x ≡ Greater → R x k ≡ Less
  turned k x e = o.antisymm x k ∙ ap ordering_reverse e

  over_all : (k x : K) → R k x ≡ Less → (xs : List K) → AllByRecursion (λ y. R x y ≡ Less) xs → AllByRecursion (λ y. R k y ≡ Less) xs
  over_all k x e = all_weaker (λ y. R x y ≡ Less) (λ y. R k y ≡ Less) (λ y. o.trans k x y e)

  pub rising-insert_key : (xs : List K) (k : K) → IsStrictlySortedBy R xs → IsStrictlySortedBy R (insert_key R xs k)
  unfolding IsStrictlySortedBy
  rising-insert_key [] k s = (tt, tt)
  rising-insert_key (x ∷ xs) k s = by (rising-insert_key xs k s.1) (R k x) refl
    where
      by : IsStrictlySortedBy R (insert_key R xs k) → (r : Ordering) → R k x ≡ r → IsStrictlySortedBy R (match_ordering r (k ∷ x ∷ xs) (x ∷ xs) (x ∷ insert_key R xs k))
      by h Less e = ((e, over_all k x e xs s.0), s)
      by h Equal e = s
      by h Greater e = (all_inserted (λ y. R x y ≡ Less) xs k (turned k x e) s.0, h)

  -- the items in order, each once
  abbrev pub rising_of : List K → List K
  rising_of [] = []
  rising_of (x ∷ xs) = insert_key R (rising_of xs) x

  pub has-rising_of : (xs : List K) (q : K) → has_by (rising_of xs) q ≡ has_by xs q
  has-rising_of [] q = refl
  has-rising_of (x ∷ xs) q = has-insert_key (rising_of xs) x q ∙ ap (λ b. eq_by_cmp R q x || b) (has-rising_of xs q)

  all-rising_of : (P : K → Type 0) (xs : List K) → AllByRecursion P xs → AllByRecursion P (rising_of xs)
  all-rising_of P [] a = tt
  all-rising_of P (x ∷ xs) a = all_inserted P (rising_of xs) x a.0 (all-rising_of P xs a.1)

  pub rising-rising_of : (xs : List K) → IsStrictlySortedBy R (rising_of xs)
  unfolding IsStrictlySortedBy
  rising-rising_of [] = tt
  rising-rising_of (x ∷ xs) = rising-insert_key (rising_of xs) x (rising-rising_of xs)

  -- what is below x, then x, then what is above it
  rising_around : (below above : List K) (x : K) → IsStrictlySortedBy R below → AllByRecursion (λ y. R y x ≡ Less) below
      → IsStrictlySortedBy R above → AllByRecursion (λ y. R x y ≡ Less) above → IsStrictlySortedBy R (below ++ x ∷ above)
  unfolding IsStrictlySortedBy
  rising_around [] above x s a t b = (b, t)
  rising_around (y ∷ ys) above x s a t b =
      (all_append (λ z. R y z ≡ Less) ys (x ∷ above) s.0 (a.0, over_all y x a.0 above b), rising_around ys above x s.1 a.1 t b)

  rising_front : (xs ys : List K) → IsStrictlySortedBy R (xs ++ ys) → IsStrictlySortedBy R xs
  unfolding IsStrictlySortedBy
  rising_front [] ys s = tt
  rising_front (x ∷ xs) ys s = (front xs s.0, rising_front xs ys s.1)
    where
      front : (zs : List K) → AllByRecursion (λ y. R x y ≡ Less) (zs ++ ys) → AllByRecursion (λ y. R x y ≡ Less) zs
      front [] a = tt
      front (z ∷ zs) a = (a.0, front zs a.1)

  pub rising_back : (xs ys : List K) → IsStrictlySortedBy R (xs ++ ys) → IsStrictlySortedBy R ys
  unfolding IsStrictlySortedBy
  rising_back [] ys s = s
  rising_back (x ∷ xs) ys s = rising_back xs ys s.1

  -- no item is the same as one that it is above, or below
  lacks_below : (q : K) (xs : List K) → AllByRecursion (λ y. R y q ≡ Less) xs → has_by xs q ≡ false
  lacks_below q [] a = refl
  lacks_below q (x ∷ xs) a = ap (λ r. is_eq r || has_by xs q) (o.antisymm q x ∙ ap ordering_reverse a.0) ∙ lacks_below q xs a.1

  lacks_above : (q : K) (xs : List K) → AllByRecursion (λ y. R q y ≡ Less) xs → has_by xs q ≡ false
  lacks_above q [] a = refl
  lacks_above q (x ∷ xs) a = ap (λ r. is_eq r || has_by xs q) a.0 ∙ lacks_above q xs a.1

  -- the items in front of the first that is not below x
  abbrev pub count_below : K → List K → ℕ
  count_below x xs = position_or_len (λ y. is_ge (R y x)) xs

  less_from_not_ge : (r : Ordering) → not (is_ge r) ≡ true → r ≡ Less
  less_from_not_ge Less h = refl
  less_from_not_ge Equal h = cc
  less_from_not_ge Greater h = cc

  -- those are below x
  pub counted_below : (x : K) (xs : List K) → AllByRecursion (λ y. R y x ≡ Less) (take (count_below x xs) xs)
  counted_below x [] = tt
  counted_below x (y ∷ ys) = by (counted_below x ys) (not (is_ge (R y x))) refl
    where
      by : AllByRecursion (λ z. R z x ≡ Less) (take (count_below x ys) ys) → (b : Bool) → not (is_ge (R y x)) ≡ b
          → AllByRecursion (λ z. R z x ≡ Less) (take (cond b (1 + count_below x ys) 0) (y ∷ ys))
      by others true e =
          let shape : take (1 + count_below x ys) (y ∷ ys) ≡ y ∷ take (count_below x ys) ys = rw one_plus refl in
          subst (λ (zs : List K). AllByRecursion (λ z. R z x ≡ Less) zs) (sym shape) (less_from_not_ge (R y x) e, others)
      by others false e = tt

  -- and the one behind them is not
  pub stops_at : (x : K) (xs : List K) (y : K) (ys : List K) → drop (count_below x xs) xs ≡ y ∷ ys → is_ge (R y x) ≡ true
  stops_at x [] y ys h = cc
  stops_at x (z ∷ zs) y ys h = by (stops_at x zs y ys) (not (is_ge (R z x))) refl h
    where
      by : (drop (count_below x zs) zs ≡ y ∷ ys → is_ge (R y x) ≡ true) → (b : Bool) → not (is_ge (R z x)) ≡ b
          → drop (cond b (1 + count_below x zs) 0) (z ∷ zs) ≡ y ∷ ys → is_ge (R y x) ≡ true
      by later true e k =
          let shape : drop (1 + count_below x zs) (z ∷ zs) ≡ drop (count_below x zs) zs = rw one_plus refl in
          later (sym shape ∙ k)
      by later false e k = not_not (is_ge (R y x)) (subst (λ (w : K). not (is_ge (R w x)) ≡ false) (same_head k) e)

  -- what is behind x, which stands first, is above it
  pub above_first : (x : K) (xs : List K) → IsStrictlySortedBy R (x ∷ xs) → AllByRecursion (λ y. R x y ≡ Less) xs
  unfolding IsStrictlySortedBy
  above_first x xs s = s.0

  -- the first is above x, and so are all
  pub above_all : (x y : K) (ys : List K) → R y x ≡ Greater → IsStrictlySortedBy R (y ∷ ys) → AllByRecursion (λ z. R x z ≡ Less) (y ∷ ys)
  above_all x y ys e s = let below : R x y ≡ Less = turned y x e in (below, over_all x y below ys (above_first y ys s))

  module _ (exact : CmpEqualImpliesEq R) where
    -- rising lists with the same members are equal
    pub same_members : (xs ys : List K) → IsStrictlySortedBy R xs → IsStrictlySortedBy R ys → ((q : K) → has_by xs q ≡ has_by ys q) → xs ≡ ys
    same_members xs ys s t h =
        let left : BTreeSet K = record { keys = xs } in
        let right : BTreeSet K = record { keys = ys } in
        btree_set_from_contains o left right s t h exact

    -- a rising list is what its members make, whatever their order and their repeats
    pub rising_of-is : (xs ys : List K) → IsStrictlySortedBy R xs → ((q : K) → has_by xs q ≡ has_by ys q) → rising_of ys ≡ xs
    rising_of-is xs ys s h = same_members (rising_of ys) xs (rising-rising_of ys) s (λ q. has-rising_of ys q ∙ sym (h q))

    pub rising_of-rising : (xs : List K) → IsStrictlySortedBy R xs → rising_of xs ≡ xs
    rising_of-rising xs s = rising_of-is xs xs s (λ q. refl)

    pub rising_of-members : (xs ys : List K) → ((q : K) → has_by xs q ≡ has_by ys q) → rising_of xs ≡ rising_of ys
    rising_of-members xs ys h = rising_of-is (rising_of ys) xs (rising-rising_of ys) (λ q. has-rising_of ys q ∙ sym (h q))

    pub has-dedup : (xs : List K) (q : K) → has_by (dedup (eq_by_cmp R) xs) q ≡ has_by xs q
    has-dedup xs q =
        let laws = eq_by_cmp_equiv o in
        let apart = tells_apart exact in
        same_answers (has_by (dedup (eq_by_cmp R) xs) q) (has_by xs q)
        (λ h. list_any-from_Contains laws q xs (Contains-from_dedup (eq_by_cmp R) xs q (Contains-from_any apart q (dedup (eq_by_cmp R) xs) h)))
        (λ h. list_any-from_Contains laws q (dedup (eq_by_cmp R) xs) (Contains-dedup laws apart xs q (Contains-from_any apart q xs h)))

  -- the items ts stand about x: those below it, x itself where it is there, and those above it
  module _ (x : K) (below above : List K) (found : Bool) where
    abbrev pub about : List K
    about = below ++ (if found then x ∷ above else above)

    module _ (under : AllByRecursion (λ y. R y x ≡ Less) below) (over : AllByRecursion (λ y. R x y ≡ Less) above) where
      has-about : (q : K) → has_by about q ≡ (has_by below q || cond found (eq_by_cmp R q x || has_by above q) (has_by above q))
      has-about q = list_any-append (eq_by_cmp R q) below (if found then x ∷ above else above) ∙ ap (λ b. has_by below q || b) (by found)
        where
          by : (f : Bool) → has_by (if f then x ∷ above else above) q ≡ cond f (eq_by_cmp R q x || has_by above q) (has_by above q)
          by true = refl
          by false = refl

      -- whether x is among them
      pub found_is : has_by about x ≡ found
      found_is = has-about x ∙ ap (λ b. b || cond found (eq_by_cmp R x x || has_by above x) (has_by above x)) (lacks_below x below under) ∙ by found
        where
          by : (f : Bool) → cond f (eq_by_cmp R x x || has_by above x) (has_by above x) ≡ f
          by true = ap (λ r. is_eq r || has_by above x) (tied_itself o x)
          by false = lacks_above x above over

      -- of an item above x only those above x matter
      past_x : (q : K) → R x q ≡ Less → has_by about q ≡ has_by above q
      past_x q e =
          has-about q
          ∙ ap (λ b. b || cond found (eq_by_cmp R q x || has_by above q) (has_by above q)) (lacks_below q below (all_weaker (λ y. R y x ≡ Less) (λ y. R y q ≡ Less) (λ y l. o.trans y x q l e) below under))
          ∙ by found
        where
          by : (f : Bool) → cond f (eq_by_cmp R q x || has_by above q) (has_by above q) ≡ has_by above q
          by true = ap (λ r. is_eq r || has_by above q) (o.antisymm q x ∙ ap ordering_reverse e)
          by false = refl

      -- one turn of a difference
      pub minus_step : (l : List K) → IsStrictlySortedBy R (x ∷ l)
          → filter (λ k. not (has_by about k)) (x ∷ l) ≡ (if found then [] else x ∷ []) ++ filter (λ k. not (has_by above k)) l
      unfolding IsStrictlySortedBy
      minus_step l s =
          let rest = filter_alike (λ k. not (has_by about k)) (λ k. not (has_by above k)) l (all_weaker (λ y. R x y ≡ Less) (λ y. not (has_by about y) ≡ not (has_by above y)) (λ y e. ap not (past_x y e)) l s.0) in
          (λ i. cond (not (found_is i)) (x ∷ rest i) (rest i)) ∙ by found
        where
          by : (f : Bool) → cond (not f) (x ∷ filter (λ k. not (has_by above k)) l) (filter (λ k. not (has_by above k)) l) ≡ (if f then [] else x ∷ []) ++ filter (λ k. not (has_by above k)) l
          by true = refl
          by false = refl

      -- one turn of a union
      pub union_step : CmpEqualImpliesEq R → (l : List K) → IsStrictlySortedBy R (x ∷ l) → IsStrictlySortedBy R about
          → rising_of ((x ∷ l) ++ about) ≡ below ++ x ∷ rising_of (l ++ above)
      unfolding IsStrictlySortedBy
      union_step exact l s t =
          rising_of-is exact (below ++ x ∷ rising_of (l ++ above)) ((x ∷ l) ++ about)
          (rising_around below (rising_of (l ++ above)) x (rising_front below (if found then x ∷ above else above) t) under
          (rising-rising_of (l ++ above)) (all-rising_of (λ y. R x y ≡ Less) (l ++ above) (all_append (λ y. R x y ≡ Less) l above s.0 over)))
          (λ q.
          list_any-append (eq_by_cmp R q) below (x ∷ rising_of (l ++ above))
          ∙ ap (λ b. has_by below q || (eq_by_cmp R q x || b)) (has-rising_of (l ++ above) q ∙ list_any-append (eq_by_cmp R q) l above)
          ∙ or_around (has_by below q) (eq_by_cmp R q x) (has_by l q) (has_by above q) found
          ∙ sym (list_any-append (eq_by_cmp R q) (x ∷ l) about ∙ ap (λ b. has_by (x ∷ l) q || b) (has-about q)))

-- ---- the test of neighbours

lt_is_less : (r : Ordering) → is_lt r ≡ true → r ≡ Less
lt_is_less Less e = refl
lt_is_less Equal e = absurd cc
lt_is_less Greater e = absurd cc

both_so : (a b : Bool) → (a && b) ≡ true → (a ≡ true) × (b ≡ true)
both_so true b e = (refl, e)
both_so false b e = absurd cc

module _ {K : Type 0} (R : K → K → Ordering) where
  -- a strictly rising list passes the test
  pub is_rising_by-so : (xs : List K) → IsStrictlySortedBy R xs → is_rising_by R xs ≡ true
  unfolding IsStrictlySortedBy
  is_rising_by-so [] h = refl
  is_rising_by-so (x ∷ []) h = refl
  is_rising_by-so (x ∷ y ∷ ys) h = rw h.0.0 (is_rising_by-so (y ∷ ys) h.1)

  -- and a list that passes it strictly rises
  pub rises-from_test : IsTotalOrder R → (xs : List K) → is_rising_by R xs ≡ true → IsStrictlySortedBy R xs
  unfolding IsStrictlySortedBy
  rises-from_test o [] e = tt
  rises-from_test o (x ∷ []) e = (tt, tt)
  rises-from_test o (x ∷ y ∷ ys) e =
      let parts = both_so (is_lt (R x y)) (is_rising_by R (y ∷ ys)) e in
      let less : R x y ≡ Less = lt_is_less (R x y) parts.0 in
      let others : IsStrictlySortedBy R (y ∷ ys) = rises-from_test o (y ∷ ys) parts.1 in
      ((less, all_weaker (λ z. R y z ≡ Less) (λ z. R x z ≡ Less) (λ z. o.trans x y z less) ys others.0), others)

-- ---- the items of a list in order, each once

module _ {K : Type 0} {R : K → K → Ordering} (o : IsTotalOrder R) (apart : (x y : K) → R x y ≡ Equal → x ≡ y) where
  pub rising_by-is : (xs : List K) → rising_by R xs ≡ rising_of o xs
  rising_by-is [] = refl
  rising_by-is (x ∷ xs) = ap (λ ys. insert_key R ys x) (rising_by-is xs)

  -- a rising list is that of each list with its items
  pub rising_by-members : (xs ys : List K) → IsStrictlySortedBy R xs → ((x : K) → has_by o xs x ≡ has_by o ys x) → rising_by R ys ≡ xs
  rising_by-members xs ys rising h = rising_by-is ys ∙ rising_of-is o apart xs ys rising h

  -- a sort and a `dedup` make it
  pub rising_by-sorted : (xs ys : List K) → IsPermutation xs ys → IsSorted R ys → dedup (eq_by_cmp R) ys ≡ rising_by R xs
  rising_by-sorted xs ys moved sorted =
      sym (rising_by-members (dedup (eq_by_cmp R) ys) xs (IsStrictlySortedBy-dedup o (λ x y. refl) ys sorted)
      (λ x. has-dedup o apart ys x ∙ sym (list_any-IsPermutation (eq_by_cmp R x) xs ys moved)))
