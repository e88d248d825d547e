-- The value at a key of a list of pairs: after a change, and that it tells rising lists apart.
use Rattle.std.proofs.Common.{◌≡◌, ◌∙◌, List, [], ◌∷◌, ◌++◌, Bool, true, false, not, cond, Option, None, Some, Ordering, refl, sym, ap}
use Rattle.std.proofs.lemmas.Cmp.{tied_itself}
use Rattle.std.proofs.lemmas.Map.Entries.{lookup-filter-keys}
use Rattle.std.proofs.lemmas.Map.Views.{tells_apart}
use Rattle.std.specs.Cmp.{IsTotalOrder}
use Rattle.std.specs.List.{AllByRecursion, filter}
use Rattle.std.specs.List.Sorted.{IsStrictlySortedBy}
use Rattle.std.specs.Map.{lookup}
use Rattle.std.specs.Option.{option_or}
use Rattle.std.specs.Ordering.{is_eq, is_gt, is_lt, ordering_reverse}
use Rattle.std.specs.declared.cmp.Ordering.TheVariants.{Less, Equal, Greater}
use Rattle.nm_timeline.proofs.Places.{flips}
use Rattle.nm_tree.specs.Pairs.{IsRising, value_at, with_pair, without}

pub lookup-append : {K V : Type 0} (test : K → Bool) (xs ys : List (K × V)) → lookup test (xs ++ ys) ≡ option_or (lookup test xs) (lookup test ys)
lookup-append test [] ys = refl
lookup-append test (x ∷ xs) ys = by (test x.0) (lookup-append test xs ys)
  where
    by : (b : Bool) → lookup test (xs ++ ys) ≡ option_or (lookup test xs) (lookup test ys)
        → cond b (Some x.1) (lookup test (xs ++ ys)) ≡ option_or (cond b (Some x.1) (lookup test xs)) (lookup test ys)
    by true h = refl
    by false h = h

module _ {K V : Type 0} {cmp : K → K → Ordering} (o : IsTotalOrder cmp) (apart : (x y : K) → cmp x y ≡ Equal → x ≡ y) where
  -- a test of the keys decides whether the value is still there
  kept_at : (p : K → Bool) (q : K) (ps : List (K × V)) → lookup (λ k. is_eq (cmp q k)) (filter (λ e. p e.0) ps) ≡ cond (p q) (value_at cmp q ps) None
  kept_at p q ps = lookup-filter-keys (λ k. is_eq (cmp q k)) p (p q) (λ k e. ap p (sym (tells_apart apart q k e))) ps

  pub value-without : (k q : K) (ps : List (K × V)) → value_at cmp q (without cmp k ps) ≡ cond (is_eq (cmp q k)) None (value_at cmp q ps)
  value-without k q ps =
      kept_at (λ x. not (is_eq (cmp k x))) q ps
      ∙ ap (λ b. cond (not b) (value_at cmp q ps) None) (flips o k q)
      ∙ by (is_eq (cmp q k))
    where
      by : (b : Bool) → cond (not b) (value_at cmp q ps) None ≡ cond b None (value_at cmp q ps)
      by true = refl
      by false = refl

  pub value-with_pair : (k : K) (v : V) (q : K) (ps : List (K × V)) → value_at cmp q (with_pair cmp (k, v) ps) ≡ cond (is_eq (cmp q k)) (Some v) (value_at cmp q ps)
  value-with_pair k v q ps =
      let below = filter (λ (e : K × V). is_gt (cmp k e.0)) ps in
      let above = filter (λ (e : K × V). is_lt (cmp k e.0)) ps in
      lookup-append (λ x. is_eq (cmp q x)) below ((k, v) ∷ above)
      ∙ (λ i. option_or (kept_at (λ x. is_gt (cmp k x)) q ps i) (cond (flips o q k i) (Some v) (kept_at (λ x. is_lt (cmp k x)) q ps i)))
      ∙ by (cmp k q) (value_at cmp q ps)
      ∙ ap (λ b. cond b (Some v) (value_at cmp q ps)) (flips o k q)
    where
      nothing_more : (l : Option V) → option_or l None ≡ l
      nothing_more None = refl
      nothing_more (Some x) = refl

      by : (r : Ordering) (l : Option V) → option_or (cond (is_gt r) l None) (cond (is_eq r) (Some v) (cond (is_lt r) l None)) ≡ cond (is_eq r) (Some v) l
      by Less l = refl
      by Equal l = refl
      by Greater l = nothing_more l

  -- below all keys there is no value
  nothing_below : (q : K) (ps : List (K × V)) → AllByRecursion (λ p. cmp q p.0 ≡ Less) ps → value_at cmp q ps ≡ None
  nothing_below q [] a = refl
  nothing_below q (p ∷ ps) a = (λ i. cond (is_eq (a.0 i)) (Some p.1) (value_at cmp q ps)) ∙ nothing_below q ps a.1

  at_first : (p : K × V) (ps : List (K × V)) → value_at cmp p.0 (p ∷ ps) ≡ Some p.1
  at_first p ps = λ i. cond (is_eq (tied_itself o p.0 i)) (Some p.1) (value_at cmp p.0 ps)

  all_beyond : (q k : K) (ps : List (K × V)) → cmp q k ≡ Less → AllByRecursion (λ p. cmp k p.0 ≡ Less) ps → AllByRecursion (λ p. cmp q p.0 ≡ Less) ps
  all_beyond q k [] e a = tt
  all_beyond q k (p ∷ ps) e a = (o.trans q k p.0 e a.0, all_beyond q k ps e a.1)

  -- rising lists with the same values at all keys are equal
  pub same_values : (xs ys : List (K × V)) → IsRising cmp xs → IsRising cmp ys → ((q : K) → value_at cmp q xs ≡ value_at cmp q ys) → xs ≡ ys
  unfolding IsStrictlySortedBy
  same_values [] [] s t h = refl
  same_values [] (y ∷ ys) s t h = absurd (let wrong : None ≡ Some y.1 = h y.0 ∙ at_first y ys in cc)
  same_values (x ∷ xs) [] s t h = absurd (let wrong : Some x.1 ≡ None = sym (at_first x xs) ∙ h x.0 in cc)
  same_values (x ∷ xs) (y ∷ ys) s t h = by (same_values xs ys s.1 t.1) (cmp x.0 y.0) refl
    where
      is : (v w : V) → Some v ≡ Some w → v ≡ w
      is v w e = cc

      -- the tails have the same values too
      tails : x.0 ≡ y.0 → (q : K) → value_at cmp q xs ≡ value_at cmp q ys
      tails e q = choose (is_eq (cmp q x.0)) refl
        where
          choose : (b : Bool) → is_eq (cmp q x.0) ≡ b → value_at cmp q xs ≡ value_at cmp q ys
          choose true f =
              let same : q ≡ x.0 = tells_apart apart q x.0 f in
              ap (λ k. value_at cmp k xs) same ∙ nothing_below x.0 xs s.0
              ∙ sym (nothing_below y.0 ys t.0) ∙ ap (λ k. value_at cmp k ys) (sym (same ∙ e))
          choose false f =
              (λ i. cond (sym f i) (Some x.1) (value_at cmp q xs)) ∙ h q
              ∙ (λ i. cond ((ap (λ k. is_eq (cmp q k)) (sym e) ∙ f) i) (Some y.1) (value_at cmp q ys))

      by : (((q : K) → value_at cmp q xs ≡ value_at cmp q ys) → xs ≡ ys) → (r : Ordering) → cmp x.0 y.0 ≡ r → x ∷ xs ≡ y ∷ ys
      by later Less e =
          absurd (let wrong : Some x.1 ≡ None = sym (at_first x xs) ∙ h x.0 ∙ nothing_below x.0 (y ∷ ys) (e, all_beyond x.0 y.0 ys e t.0) in cc)
      by later Equal e =
          let key : x.0 ≡ y.0 = apart x.0 y.0 e in
          let value : x.1 ≡ y.1 = is x.1 y.1 (sym (at_first x xs) ∙ h x.0 ∙ ap (λ k. value_at cmp k (y ∷ ys)) key ∙ at_first y ys) in
          λ i. (key i, value i) ∷ later (tails key) i
      by later Greater e =
          let less : cmp y.0 x.0 ≡ Less = o.antisymm y.0 x.0 ∙ ap ordering_reverse e in
          absurd (let wrong : None ≡ Some y.1 = sym (nothing_below y.0 (x ∷ xs) (less, all_beyond y.0 x.0 xs less s.0)) ∙ h y.0 ∙ at_first y ys in cc)
