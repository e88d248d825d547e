-- What a rising list of pairs has at, below and above a key, by where the key lies beside a pair of it.
use Rattle.std.proofs.Common.{◌≡◌, Bool, true, false, not, cond, None, Some, List, [], ◌∷◌, ◌++◌, refl, sym, ap, ◌∙◌}
use Rattle.std.specs.Cmp.{IsTotalOrder}
use Rattle.std.specs.List.{AllByRecursion, filter}
use Rattle.std.specs.List.Sorted.{IsStrictlySortedBy}
use Rattle.std.specs.Ordering.{is_eq, is_gt, is_lt, ordering_reverse}
use Rattle.std.specs.declared.cmp.Ordering.{Ordering}
use Rattle.std.specs.declared.cmp.Ordering.TheVariants.{Less, Equal, Greater}
use Rattle.std.proofs.lemmas.List.{append-nil}
use Rattle.std.proofs.lemmas.List.Elements.{filter-append}
use Rattle.std.proofs.lemmas.List.Kept.{IsStrictlySortedBy-filter}
use Rattle.nm_tree.specs.Pairs.{pair_cmp, IsRising, pairs_below, pairs_above, value_at, with_pair, without}
use Rattle.nm_tree.proofs.Rising.{regroup}

pub AllByRecursion-map : {X : Type 0} (P Q : X → Type 0) → ((x : X) → P x → Q x) → (xs : List X) → AllByRecursion P xs → AllByRecursion Q xs
AllByRecursion-map P Q f [] all = tt
AllByRecursion-map P Q f (x ∷ xs) all = (f x all.0, AllByRecursion-map P Q f xs all.1)

all_middle : {X : Type 0} (P : X → Type 0) (l : List X) (k : X) (r : List X) → AllByRecursion P (l ++ k ∷ r) → P k
all_middle P [] k r all = all.0
all_middle P (x ∷ l) k r all = all_middle P l k r all.1

pub filter_all : {X : Type 0} (test : X → Bool) (xs : List X) → AllByRecursion (λ x. test x ≡ true) xs → filter test xs ≡ xs
filter_all test [] all = refl
filter_all test (x ∷ xs) all = rw all.0 (ap (λ ys. x ∷ ys) (filter_all test xs all.1))

pub filter_none : {X : Type 0} (test : X → Bool) (xs : List X) → AllByRecursion (λ x. test x ≡ false) xs → filter test xs ≡ []
filter_none test [] all = refl
filter_none test (x ∷ xs) all = rw all.0 (filter_none test xs all.1)

filter_tested_by : {X : Type 0} (test : X → Bool) (x : X) (xs : List X) (b : Bool) → test x ≡ b → AllByRecursion (λ y. test y ≡ true) xs → AllByRecursion (λ y. test y ≡ true) (cond b (x ∷ xs) xs)
filter_tested_by test x xs true e all = (e, all)
filter_tested_by test x xs false e all = all

pub filter_tested : {X : Type 0} (test : X → Bool) (xs : List X) → AllByRecursion (λ x. test x ≡ true) (filter test xs)
filter_tested test [] = tt
filter_tested test (x ∷ xs) = filter_tested_by test x (filter test xs) (test x) refl (filter_tested test xs)

module _ {X : Type 0} (cmp : X → X → Ordering) where
  -- all that stands before an item is below it, and all that stands behind it above
  pub all_before : (l : List X) (k : X) (r : List X) → IsStrictlySortedBy cmp (l ++ k ∷ r) → AllByRecursion (λ x. cmp x k ≡ Less) l
  unfolding IsStrictlySortedBy
  all_before [] k r s = tt
  all_before (x ∷ l) k r s = (all_middle (λ y. cmp x y ≡ Less) l k r s.0, all_before l k r s.1)

  pub all_behind : (l : List X) (k : X) (r : List X) → IsStrictlySortedBy cmp (l ++ k ∷ r) → AllByRecursion (λ x. cmp k x ≡ Less) r
  unfolding IsStrictlySortedBy
  all_behind [] k r s = s.0
  all_behind (x ∷ l) k r s = all_behind l k r s.1

  append_all : (P : X → Type 0) (l m : List X) → AllByRecursion P l → AllByRecursion P m → AllByRecursion P (l ++ m)
  append_all P [] m all others = others
  append_all P (x ∷ l) m all others = (all.0, append_all P l m all.1 others)

  -- the way back
  pub rising_around : (trans : (x y z : X) → cmp x y ≡ Less → cmp y z ≡ Less → cmp x z ≡ Less) (l : List X) (k : X) (r : List X) → IsStrictlySortedBy cmp l → IsStrictlySortedBy cmp r → AllByRecursion (λ x. cmp x k ≡ Less) l → AllByRecursion (λ x. cmp k x ≡ Less) r → IsStrictlySortedBy cmp (l ++ k ∷ r)
  unfolding IsStrictlySortedBy
  rising_around trans [] k r s t below above = (above, t)
  rising_around trans (x ∷ l) k r s t below above =
      (append_all (λ y. cmp x y ≡ Less) l (k ∷ r) s.0 (below.0, AllByRecursion-map _ _ (λ y h. trans x k y below.0 h) r above), rising_around trans l k r s.1 t below.1 above)

module _ {K : Type 0} {cmp : K → K → Ordering} (o : IsTotalOrder cmp) where
  reversed : (x y : K) (r : Ordering) → cmp x y ≡ r → cmp y x ≡ ordering_reverse r
  reversed x y r e = o.antisymm y x ∙ ap ordering_reverse e

  below_by : (x y : K) (r : Ordering) → cmp x y ≡ r → is_gt r ≡ true → cmp y x ≡ Less
  below_by x y Less p q = cc
  below_by x y Equal p q = cc
  below_by x y Greater p q = reversed x y Greater p

  above_by : (x y : K) (r : Ordering) → cmp x y ≡ r → is_lt r ≡ true → cmp x y ≡ Less
  above_by x y Less p q = p
  above_by x y Equal p q = cc
  above_by x y Greater p q = cc

module _ {K V : Type 0} {cmp : K → K → Ordering} (o : IsTotalOrder cmp) where
  -- a key beside what stands before and behind a pair
  less_behind : (key : K) (l : List (K × V)) (p : K × V) (r : List (K × V)) → cmp key p.0 ≡ Less → IsRising cmp (l ++ p ∷ r) → AllByRecursion (λ q. cmp key q.0 ≡ Less) (p ∷ r)
  less_behind key l p r e s = (e, AllByRecursion-map _ _ (λ q h. o.trans key p.0 q.0 e h) r (all_behind (pair_cmp cmp) l p r s))

  greater_before : (key : K) (l : List (K × V)) (p : K × V) (r : List (K × V)) → cmp key p.0 ≡ Greater → IsRising cmp (l ++ p ∷ r) → AllByRecursion (λ q. cmp key q.0 ≡ Greater) l
  greater_before key l p r e s =
      AllByRecursion-map _ _ (λ q h. reversed o q.0 key Less (o.trans q.0 p.0 key h (reversed o key p.0 Greater e))) l (all_before (pair_cmp cmp) l p r s)

  equal_before : (key : K) (l : List (K × V)) (p : K × V) (r : List (K × V)) → cmp key p.0 ≡ Equal → IsRising cmp (l ++ p ∷ r) → AllByRecursion (λ q. cmp key q.0 ≡ Greater) l
  equal_before key l p r e s =
      AllByRecursion-map _ _ (λ q h. o.congr key p.0 q.0 e ∙ reversed o q.0 p.0 Less h) l (all_before (pair_cmp cmp) l p r s)

  equal_behind : (key : K) (l : List (K × V)) (p : K × V) (r : List (K × V)) → cmp key p.0 ≡ Equal → IsRising cmp (l ++ p ∷ r) → AllByRecursion (λ q. cmp key q.0 ≡ Less) r
  equal_behind key l p r e s = AllByRecursion-map _ _ (λ q h. o.congr key p.0 q.0 e ∙ h) r (all_behind (pair_cmp cmp) l p r s)

  -- a list that lies on one side of the key
  module _ (key : K) (xs : List (K × V)) where
    below_less : AllByRecursion (λ q. cmp key q.0 ≡ Less) xs → pairs_below cmp key xs ≡ []
    below_less all = filter_none _ xs (AllByRecursion-map _ _ (λ q e. ap is_gt e) xs all)

    above_less : AllByRecursion (λ q. cmp key q.0 ≡ Less) xs → pairs_above cmp key xs ≡ xs
    above_less all = filter_all _ xs (AllByRecursion-map _ _ (λ q e. ap is_lt e) xs all)

    below_greater : AllByRecursion (λ q. cmp key q.0 ≡ Greater) xs → pairs_below cmp key xs ≡ xs
    below_greater all = filter_all _ xs (AllByRecursion-map _ _ (λ q e. ap is_gt e) xs all)

    above_greater : AllByRecursion (λ q. cmp key q.0 ≡ Greater) xs → pairs_above cmp key xs ≡ []
    above_greater all = filter_none _ xs (AllByRecursion-map _ _ (λ q e. ap is_lt e) xs all)

    without_less : AllByRecursion (λ q. cmp key q.0 ≡ Less) xs → without cmp key xs ≡ xs
    without_less all = filter_all _ xs (AllByRecursion-map _ _ (λ q e. ap (λ r. not (is_eq r)) e) xs all)

    without_greater : AllByRecursion (λ q. cmp key q.0 ≡ Greater) xs → without cmp key xs ≡ xs
    without_greater all = filter_all _ xs (AllByRecursion-map _ _ (λ q e. ap (λ r. not (is_eq r)) e) xs all)

  lookup_none : (key : K) (xs : List (K × V)) → AllByRecursion (λ q. cmp key q.0 ≡ Less) xs → value_at cmp key xs ≡ None
  lookup_none key [] all = refl
  lookup_none key (x ∷ xs) all = rw all.0 (lookup_none key xs all.1)

  lookup_past : (key : K) (xs ys : List (K × V)) → AllByRecursion (λ q. cmp key q.0 ≡ Greater) xs → value_at cmp key (xs ++ ys) ≡ value_at cmp key ys
  lookup_past key [] ys all = refl
  lookup_past key (x ∷ xs) ys all = rw all.0 (lookup_past key xs ys all.1)

  lookup_within : (key : K) (xs ys : List (K × V)) → value_at cmp key ys ≡ None → value_at cmp key (xs ++ ys) ≡ value_at cmp key xs
  lookup_within key [] ys e = e
  lookup_within key (x ∷ xs) ys e = ap (λ r. cond (is_eq (cmp key x.0)) (Some x.1) r) (lookup_within key xs ys e)

  -- the key at a fork, by where it lies beside the pair at the top
  module _ (l : List (K × V)) (p : K × V) (r : List (K × V)) (s : IsRising cmp (l ++ p ∷ r)) where
    pub value_at-left : (key : K) → cmp key p.0 ≡ Less → value_at cmp key (l ++ p ∷ r) ≡ value_at cmp key l
    value_at-left key e = lookup_within key l (p ∷ r) (lookup_none key (p ∷ r) (less_behind key l p r e s))

    pub value_at-middle : (key : K) → cmp key p.0 ≡ Equal → value_at cmp key (l ++ p ∷ r) ≡ Some p.1
    value_at-middle key e = lookup_past key l (p ∷ r) (equal_before key l p r e s) ∙ ap (λ o. cond (is_eq o) (Some p.1) (value_at cmp key r)) e

    pub value_at-right : (key : K) → cmp key p.0 ≡ Greater → value_at cmp key (l ++ p ∷ r) ≡ value_at cmp key r
    value_at-right key e = lookup_past key l (p ∷ r) (greater_before key l p r e s) ∙ ap (λ o. cond (is_eq o) (Some p.1) (value_at cmp key r)) e

    pub with_pair-left : (pair : K × V) → cmp pair.0 p.0 ≡ Less → with_pair cmp pair (l ++ p ∷ r) ≡ with_pair cmp pair l ++ p ∷ r
    with_pair-left pair e =
        let key = pair.0 in
        let behind = less_behind key l p r e s in
        let low : pairs_below cmp key (l ++ p ∷ r) ≡ pairs_below cmp key l = filter-append _ l (p ∷ r) ∙ ap (λ ys. pairs_below cmp key l ++ ys) (below_less key (p ∷ r) behind) ∙ append-nil _ in
        let high : pairs_above cmp key (l ++ p ∷ r) ≡ pairs_above cmp key l ++ p ∷ r = filter-append _ l (p ∷ r) ∙ ap (λ ys. pairs_above cmp key l ++ ys) (above_less key (p ∷ r) behind) in
        ap (λ ys. ys ++ pair ∷ pairs_above cmp key (l ++ p ∷ r)) low ∙ ap (λ ys. pairs_below cmp key l ++ pair ∷ ys) high ∙ sym (regroup (pairs_below cmp key l) pair (pairs_above cmp key l) p r)

    pub with_pair-middle : (pair : K × V) → cmp pair.0 p.0 ≡ Equal → with_pair cmp pair (l ++ p ∷ r) ≡ l ++ pair ∷ r
    with_pair-middle pair e =
        let key = pair.0 in
        let before = equal_before key l p r e s in
        let behind = equal_behind key l p r e s in
        let low_top : pairs_below cmp key (p ∷ r) ≡ [] = ap (λ o. cond (is_gt o) (p ∷ pairs_below cmp key r) (pairs_below cmp key r)) e ∙ below_less key r behind in
        let low : pairs_below cmp key (l ++ p ∷ r) ≡ l = filter-append _ l (p ∷ r) ∙ ap (λ ys. pairs_below cmp key l ++ ys) low_top ∙ append-nil _ ∙ below_greater key l before in
        let high_top : pairs_above cmp key (p ∷ r) ≡ r = ap (λ o. cond (is_lt o) (p ∷ pairs_above cmp key r) (pairs_above cmp key r)) e ∙ above_less key r behind in
        let high : pairs_above cmp key (l ++ p ∷ r) ≡ r = filter-append _ l (p ∷ r) ∙ ap (λ ys. ys ++ pairs_above cmp key (p ∷ r)) (above_greater key l before) ∙ high_top in
        ap (λ ys. ys ++ pair ∷ pairs_above cmp key (l ++ p ∷ r)) low ∙ ap (λ ys. l ++ pair ∷ ys) high

    pub with_pair-right : (pair : K × V) → cmp pair.0 p.0 ≡ Greater → with_pair cmp pair (l ++ p ∷ r) ≡ l ++ p ∷ with_pair cmp pair r
    with_pair-right pair e =
        let key = pair.0 in
        let before = greater_before key l p r e s in
        let low_top : pairs_below cmp key (p ∷ r) ≡ p ∷ pairs_below cmp key r = ap (λ o. cond (is_gt o) (p ∷ pairs_below cmp key r) (pairs_below cmp key r)) e in
        let low : pairs_below cmp key (l ++ p ∷ r) ≡ l ++ p ∷ pairs_below cmp key r = filter-append _ l (p ∷ r) ∙ ap (λ ys. ys ++ pairs_below cmp key (p ∷ r)) (below_greater key l before) ∙ ap (λ ys. l ++ ys) low_top in
        let high_top : pairs_above cmp key (p ∷ r) ≡ pairs_above cmp key r = ap (λ o. cond (is_lt o) (p ∷ pairs_above cmp key r) (pairs_above cmp key r)) e in
        let high : pairs_above cmp key (l ++ p ∷ r) ≡ pairs_above cmp key r = filter-append _ l (p ∷ r) ∙ ap (λ ys. ys ++ pairs_above cmp key (p ∷ r)) (above_greater key l before) ∙ high_top in
        ap (λ ys. ys ++ pair ∷ pairs_above cmp key (l ++ p ∷ r)) low ∙ ap (λ ys. (l ++ p ∷ pairs_below cmp key r) ++ pair ∷ ys) high ∙ regroup l p (pairs_below cmp key r) pair (pairs_above cmp key r)

    pub without-left : (key : K) → cmp key p.0 ≡ Less → without cmp key (l ++ p ∷ r) ≡ without cmp key l ++ p ∷ r
    without-left key e = filter-append _ l (p ∷ r) ∙ ap (λ ys. without cmp key l ++ ys) (without_less key (p ∷ r) (less_behind key l p r e s))

    pub without-middle : (key : K) → cmp key p.0 ≡ Equal → without cmp key (l ++ p ∷ r) ≡ l ++ r
    without-middle key e =
        let top : without cmp key (p ∷ r) ≡ r = ap (λ o. cond (not (is_eq o)) (p ∷ without cmp key r) (without cmp key r)) e ∙ without_less key r (equal_behind key l p r e s) in
        filter-append _ l (p ∷ r) ∙ ap (λ ys. ys ++ without cmp key (p ∷ r)) (without_greater key l (equal_before key l p r e s)) ∙ ap (λ ys. l ++ ys) top

    pub without-right : (key : K) → cmp key p.0 ≡ Greater → without cmp key (l ++ p ∷ r) ≡ l ++ p ∷ without cmp key r
    without-right key e =
        let top : without cmp key (p ∷ r) ≡ p ∷ without cmp key r = ap (λ o. cond (not (is_eq o)) (p ∷ without cmp key r) (without cmp key r)) e in
        filter-append _ l (p ∷ r) ∙ ap (λ ys. ys ++ without cmp key (p ∷ r)) (without_greater key l (greater_before key l p r e s)) ∙ ap (λ ys. l ++ ys) top

  pub rising-with_pair : (pair : K × V) (xs : List (K × V)) → IsRising cmp xs → IsRising cmp (with_pair cmp pair xs)
  rising-with_pair pair xs s =
      rising_around (pair_cmp cmp) (λ x y z. o.trans x.0 y.0 z.0) (pairs_below cmp pair.0 xs) pair (pairs_above cmp pair.0 xs)
      (IsStrictlySortedBy-filter (pair_cmp cmp) _ xs s) (IsStrictlySortedBy-filter (pair_cmp cmp) _ xs s)
      (AllByRecursion-map _ _ (λ q e. below_by o pair.0 q.0 _ refl e) (pairs_below cmp pair.0 xs) (filter_tested _ xs)) (AllByRecursion-map _ _ (λ q e. above_by o pair.0 q.0 _ refl e) (pairs_above cmp pair.0 xs) (filter_tested _ xs))

  pub rising-without : (key : K) (xs : List (K × V)) → IsRising cmp xs → IsRising cmp (without cmp key xs)
  rising-without key xs s = IsStrictlySortedBy-filter (pair_cmp cmp) _ xs s
