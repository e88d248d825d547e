-- What a rising list of pairs has in a span, by where the pair at the top of a fork lies.
use Rattle.std.proofs.Common.{◌≡◌, ◌≤◌, Bool, true, not, cond, List, [], ◌∷◌, ◌++◌, refl, ap, ◌∙◌, append_assoc, arith}
use Rattle.std.specs.Borrow.{Bor}
use Rattle.std.specs.List.{AllByRecursion, filter}
use Rattle.std.specs.Ordering.{is_eq, is_gt, is_lt, ordering_index}
use Rattle.std.specs.declared.cmp.Ordering.{Ordering}
use Rattle.std.specs.declared.cmp.Ordering.TheVariants.{Less, Equal, Greater}
use Rattle.std.proofs.lemmas.List.{append-nil, map-append}
use Rattle.std.proofs.lemmas.List.Elements.{filter-append}
use Rattle.nm_tree.specs.Pairs.{pair_cmp, IsRising}
use Rattle.nm_tree.specs.Span.{IsMonotone, pairs_within, pairs_not_below, pairs_not_above, values_of}
use Rattle.nm_tree.proofs.Around.{AllByRecursion-map, all_before, all_behind, filter_all, filter_none}

filter_alike : {X : Type 0} (f g : X → Bool) (xs : List X) → AllByRecursion (λ x. f x ≡ g x) xs → filter f xs ≡ filter g xs
filter_alike f g [] all = refl
filter_alike f g (x ∷ xs) all = ap (λ b. cond b (x ∷ filter f xs) (filter f xs)) all.0 ∙ ap (λ ys. cond (g x) (x ∷ ys) ys) (filter_alike f g xs all.1)

lowest : (r : Ordering) → ordering_index r ≤ 0 → r ≡ Less
lowest Less h = refl
lowest Equal h = absurd (omega arith)
lowest Greater h = absurd (omega arith)

highest : (r : Ordering) → 2 ≤ ordering_index r → r ≡ Greater
highest Less h = absurd (omega arith)
highest Equal h = absurd (omega arith)
highest Greater h = refl

within_or_below : (r : Ordering) → ordering_index r ≤ 1 → is_eq r ≡ not (is_lt r)
within_or_below Less h = refl
within_or_below Equal h = refl
within_or_below Greater h = absurd (omega arith)

within_or_above : (r : Ordering) → 1 ≤ ordering_index r → is_eq r ≡ not (is_gt r)
within_or_above Less h = absurd (omega arith)
within_or_above Equal h = refl
within_or_above Greater h = refl

not_below : (r : Ordering) → 1 ≤ ordering_index r → not (is_lt r) ≡ true
not_below Less h = absurd (omega arith)
not_below Equal h = refl
not_below Greater h = refl

not_above : (r : Ordering) → ordering_index r ≤ 1 → not (is_gt r) ≡ true
not_above Less h = refl
not_above Equal h = refl
not_above Greater h = absurd (omega arith)

pub at_least_equal : (r : Ordering) → (r ≡ Less → ⊥) → 1 ≤ ordering_index r
at_least_equal Less h = absurd (h refl)
at_least_equal Equal h = omega arith
at_least_equal Greater h = omega arith

pub at_most_equal : (r : Ordering) → (r ≡ Greater → ⊥) → ordering_index r ≤ 1
at_most_equal Less h = omega arith
at_most_equal Equal h = omega arith
at_most_equal Greater h = absurd (h refl)

module _ {K V : Type 0} {cmp : K → K → Ordering} (place : K → Ordering) (rises : IsMonotone cmp place) (l : List (K × V)) (p : K × V) (r : List (K × V)) (s : IsRising cmp (l ++ p ∷ r)) where
  places_before : AllByRecursion (λ q. ordering_index (place q.0) ≤ ordering_index (place p.0)) l
  places_before = AllByRecursion-map _ _ (λ q h. rises q.0 p.0 h) l (all_before (pair_cmp cmp) l p r s)

  places_behind : AllByRecursion (λ q. ordering_index (place p.0) ≤ ordering_index (place q.0)) r
  places_behind = AllByRecursion-map _ _ (λ q h. rises p.0 q.0 h) r (all_behind (pair_cmp cmp) l p r s)

  all_below : place p.0 ≡ Less → AllByRecursion (λ q. place q.0 ≡ Less) l
  all_below e = AllByRecursion-map _ _ (λ q h. lowest (place q.0) (rw e at h)) l places_before

  all_above : place p.0 ≡ Greater → AllByRecursion (λ q. place q.0 ≡ Greater) r
  all_above e = AllByRecursion-map _ _ (λ q h. highest (place q.0) (rw e at h)) r places_behind

  pub within-below : place p.0 ≡ Less → pairs_within place (l ++ p ∷ r) ≡ pairs_within place r
  within-below e =
      filter-append _ l (p ∷ r) ∙ ap (λ ys. ys ++ pairs_within place (p ∷ r)) (filter_none _ l (AllByRecursion-map _ _ (λ q h. ap is_eq h) l (all_below e)))
      ∙ ap (λ o. cond (is_eq o) (p ∷ pairs_within place r) (pairs_within place r)) e

  pub within-above : place p.0 ≡ Greater → pairs_within place (l ++ p ∷ r) ≡ pairs_within place l
  within-above e =
      filter-append _ l (p ∷ r)
      ∙ ap (λ ys. pairs_within place l ++ ys) (ap (λ o. cond (is_eq o) (p ∷ pairs_within place r) (pairs_within place r)) e ∙ filter_none _ r (AllByRecursion-map _ _ (λ q h. ap is_eq h) r (all_above e)))
      ∙ append-nil _

  pub within-inside : place p.0 ≡ Equal → pairs_within place (l ++ p ∷ r) ≡ pairs_not_below place l ++ p ∷ pairs_not_above place r
  within-inside e =
      filter-append _ l (p ∷ r)
      ∙ ap (λ ys. ys ++ pairs_within place (p ∷ r)) (filter_alike _ _ l (AllByRecursion-map _ _ (λ q h. within_or_below (place q.0) (rw e at h)) l places_before))
      ∙ ap (λ ys. pairs_not_below place l ++ ys)
      (ap (λ o. cond (is_eq o) (p ∷ pairs_within place r) (pairs_within place r)) e
      ∙ ap (λ ys. p ∷ ys) (filter_alike _ _ r (AllByRecursion-map _ _ (λ q h. within_or_above (place q.0) (rw e at h)) r places_behind)))

  pub not_below-below : place p.0 ≡ Less → pairs_not_below place (l ++ p ∷ r) ≡ pairs_not_below place r
  not_below-below e =
      filter-append _ l (p ∷ r) ∙ ap (λ ys. ys ++ pairs_not_below place (p ∷ r)) (filter_none _ l (AllByRecursion-map _ _ (λ q h. ap (λ o. not (is_lt o)) h) l (all_below e)))
      ∙ ap (λ o. cond (not (is_lt o)) (p ∷ pairs_not_below place r) (pairs_not_below place r)) e

  pub not_below-inside : 1 ≤ ordering_index (place p.0) → pairs_not_below place (l ++ p ∷ r) ≡ pairs_not_below place l ++ p ∷ r
  not_below-inside h =
      filter-append _ l (p ∷ r)
      ∙ ap (λ ys. pairs_not_below place l ++ ys) (filter_all _ (p ∷ r) (not_below (place p.0) h, AllByRecursion-map _ _ (λ q k. not_below (place q.0) (omega (arith, h, k))) r places_behind))

  pub not_above-above : place p.0 ≡ Greater → pairs_not_above place (l ++ p ∷ r) ≡ pairs_not_above place l
  not_above-above e =
      filter-append _ l (p ∷ r)
      ∙ ap (λ ys. pairs_not_above place l ++ ys)
      (ap (λ o. cond (not (is_gt o)) (p ∷ pairs_not_above place r) (pairs_not_above place r)) e ∙ filter_none _ r (AllByRecursion-map _ _ (λ q h. ap (λ o. not (is_gt o)) h) r (all_above e)))
      ∙ append-nil _

  pub not_above-inside : ordering_index (place p.0) ≤ 1 → pairs_not_above place (l ++ p ∷ r) ≡ l ++ p ∷ pairs_not_above place r
  not_above-inside h =
      filter-append _ l (p ∷ r)
      ∙ ap (λ ys. ys ++ pairs_not_above place (p ∷ r)) (filter_all _ l (AllByRecursion-map _ _ (λ q k. not_above (place q.0) (omega (arith, h, k))) l places_before))
      ∙ ap (λ b. l ++ cond b (p ∷ pairs_not_above place r) (pairs_not_above place r)) (not_above (place p.0) h)

-- what was found, with what a node and its sides give behind it
pub gathered : {X : Type 0} (old some pushed : List (Bor X)) (before behind : List X) (p : Bor X) (x : X) → pushed ≡ some ++ p ∷ [] → values_of some ≡ values_of old ++ before → p.now ≡ x → values_of pushed ++ behind ≡ values_of old ++ (before ++ x ∷ behind)
gathered old some pushed before behind p x pushed_is some_is p_is =
    ap (λ xs. values_of xs ++ behind) pushed_is ∙ ap (λ xs. xs ++ behind) (map-append (λ y. y.now) some (p ∷ [])) ∙ ap (λ xs. (xs ++ p.now ∷ []) ++ behind) some_is
    ∙ append_assoc (values_of old ++ before) (p.now ∷ []) behind ∙ append_assoc (values_of old) before (p.now ∷ behind) ∙ ap (λ y. values_of old ++ (before ++ y ∷ behind)) p_is
