-- What a search finds at a key, once items were added or taken out.
use Rattle.std.proofs.Common.{◌≡◌, ◌∙◌, List, [], ◌∷◌, Bool, true, false, ◌||◌, not, cond, Option, None, Some, map, refl, sym, subst, ap}
use Rattle.std.proofs.lemmas.Cmp.{alike_right}
use Rattle.std.proofs.lemmas.List.Folds.{find-append}
use Rattle.std.specs.Cmp.{IsTotalOrder}
use Rattle.std.specs.List.{AllByRecursion, filter, find, list_any}
use Rattle.std.specs.List.Sorted.{IsStrictlySortedBy}
use Rattle.std.specs.Option.{is_some, option_or}
use Rattle.std.specs.Ordering.{is_eq, is_gt, is_lt, ordering_reverse}
use Rattle.std.specs.declared.cmp.Ordering.{Ordering}
use Rattle.std.specs.declared.cmp.Ordering.TheVariants.{Less, Equal, Greater}
use Rattle.nm_blocks.specs.Items.{item_at, items_above, items_below, with_all, with_item, without, without_all}

module _ {X : Type 0} where
  none_either : (b : Bool) (same : Option X) → same ≡ cond b same same
  none_either true same = refl
  none_either false same = refl

  or_none : (found : Option X) → option_or found None ≡ found
  or_none None = refl
  or_none (Some x) = refl

  pub all_so : (P : X → Type 0) → ((x : X) → P x) → (xs : List X) → AllByRecursion P xs
  all_so P f [] = tt
  all_so P f (x ∷ xs) = (f x, all_so P f xs)

  -- a choice that says the same of all that a test passes
  pub find-filter_all : (test p : X → Bool) (b : Bool) (xs : List X) → AllByRecursion (λ x. test x ≡ true → p x ≡ b) xs → find test (filter p xs) ≡ cond b (find test xs) None
  find-filter_all test p b [] a = none_either b None
  find-filter_all test p b (x ∷ xs) a = by (find-filter_all test p b xs a.1) (test x) refl (p x) refl
    where
      at : test x ≡ true → find test (x ∷ filter p xs) ≡ Some x
      at e = ap (λ t. cond t (Some x) (find test (filter p xs))) e

      by : find test (filter p xs) ≡ cond b (find test xs) None → (t : Bool) → test x ≡ t → (k : Bool) → p x ≡ k
          → find test (cond k (x ∷ filter p xs) (filter p xs)) ≡ cond b (cond t (Some x) (find test xs)) None
      by h true e true g = at e ∙ ap (λ c. cond c (Some x) None) (sym g ∙ a.0 e)
      by h true e false g = h ∙ ap (λ c. cond c (find test xs) None) (sym (a.0 e) ∙ g) ∙ ap (λ c. cond c (Some x) None) (sym g ∙ a.0 e)
      by h false e true g = ap (λ t. cond t (Some x) (find test (filter p xs))) e ∙ h
      by h false e false g = h

  pub find-filter : (test p : X → Bool) (b : Bool) → ((x : X) → test x ≡ true → p x ≡ b) → (xs : List X) → find test (filter p xs) ≡ cond b (find test xs) None
  find-filter test p b f xs = find-filter_all test p b xs (all_so (λ x. test x ≡ true → p x ≡ b) f xs)

  pub find_tested : (test : X → Bool) (xs : List X) (y : X) → find test xs ≡ Some y → test y ≡ true
  find_tested test [] y e = absurd (let wrong = e in cc)
  find_tested test (x ∷ xs) y e = by (find_tested test xs y) (test x) refl e
    where
      by : (find test xs ≡ Some y → test y ≡ true) → (t : Bool) → test x ≡ t → cond t (Some x) (find test xs) ≡ Some y → test y ≡ true
      by later true g f = let same : x ≡ y = cc in ap test (sym same) ∙ g
      by later false g f = later f

  -- what all items have, one that is found has
  pub found_all : (P : X → Type 0) (test : X → Bool) (xs : List X) (y : X) → find test xs ≡ Some y → AllByRecursion P xs → P y
  found_all P test [] y e a = absurd (let wrong = e in cc)
  found_all P test (x ∷ xs) y e a = by (λ f. found_all P test xs y f a.1) (test x) e
    where
      by : (find test xs ≡ Some y → P y) → (t : Bool) → cond t (Some x) (find test xs) ≡ Some y → P y
      by later true f = let same : x ≡ y = cc in subst P same a.0
      by later false f = later f

  pub list_any-find : (test : X → Bool) (xs : List X) → is_some (find test xs) ≡ list_any test xs
  list_any-find test [] = refl
  list_any-find test (x ∷ xs) = by (list_any-find test xs) (test x)
    where
      by : is_some (find test xs) ≡ list_any test xs → (t : Bool) → is_some (cond t (Some x) (find test xs)) ≡ (t || list_any test xs)
      by h true = refl
      by h false = h

  -- two tests that say the same
  pub find_alike : (p q : X → Bool) → ((x : X) → p x ≡ q x) → (xs : List X) → find p xs ≡ find q xs
  find_alike p q f [] = refl
  find_alike p q f (x ∷ xs) = λ i. cond (f x i) (Some x) (find_alike p q f xs i)

  pub filter_alike : (p q : X → Bool) → ((x : X) → p x ≡ q x) → (xs : List X) → filter p xs ≡ filter q xs
  filter_alike p q f [] = refl
  filter_alike p q f (x ∷ xs) = λ i. cond (f x i) (x ∷ filter_alike p q f xs i) (filter_alike p q f xs i)

  pub any_alike : (p q : X → Bool) → ((x : X) → p x ≡ q x) → (xs : List X) → list_any p xs ≡ list_any q xs
  any_alike p q f [] = refl
  any_alike p q f (x ∷ xs) = λ i. f x i || any_alike p q f xs i

module _ {T K : Type 0} (key : T → K) {cmp : K → K → Ordering} (o : IsTotalOrder cmp) where
  -- a key that is level with another stands to a third as that one does
  same_side : (j k : K) (y : T) → is_eq (cmp k (key y)) ≡ true → cmp j (key y) ≡ cmp j k
  same_side j k y e = sym (alike_right o k (key y) j (level (cmp k (key y)) e))
    where
      level : (r : Ordering) → is_eq r ≡ true → r ≡ Equal
      level Less f = absurd (let wrong = f in cc)
      level Equal f = refl
      level Greater f = absurd (let wrong = f in cc)

  -- one key taken out
  pub item_at-without : (k j : K) (xs : List T) → item_at key cmp k (without key cmp j xs) ≡ cond (is_eq (cmp j k)) None (item_at key cmp k xs)
  item_at-without k j xs =
      find-filter (λ x. is_eq (cmp k (key x))) (λ x. not (is_eq (cmp j (key x)))) (not (is_eq (cmp j k))) (λ y e. ap (λ r. not (is_eq r)) (same_side j k y e)) xs
      ∙ turned (is_eq (cmp j k)) (item_at key cmp k xs)
    where
      turned : (b : Bool) (found : Option T) → cond (not b) found None ≡ cond b None found
      turned true found = refl
      turned false found = refl

  -- several keys taken out
  pub item_at-without_all : (k : K) (js : List K) (xs : List T) → item_at key cmp k (without_all key cmp js xs) ≡ cond (list_any (λ j. is_eq (cmp j k)) js) None (item_at key cmp k xs)
  item_at-without_all k [] xs = refl
  item_at-without_all k (j ∷ js) xs =
      item_at-without_all k js (without key cmp j xs)
      ∙ ap (cond (list_any (λ i. is_eq (cmp i k)) js) None) (item_at-without k j xs)
      ∙ either (is_eq (cmp j k)) (list_any (λ i. is_eq (cmp i k)) js)
    where
      either : (a b : Bool) → cond b None (cond a None (item_at key cmp k xs)) ≡ cond (a || b) None (item_at key cmp k xs)
      either true true = refl
      either true false = refl
      either false b = refl

  -- one item put in
  pub item_at-with_item : (k : K) (y : T) (xs : List T) → item_at key cmp k (with_item key cmp y xs) ≡ cond (is_eq (cmp k (key y))) (Some y) (item_at key cmp k xs)
  item_at-with_item k y xs =
      find-append test (items_below key cmp (key y) xs) (y ∷ items_above key cmp (key y) xs)
      ∙ (λ i. option_or (find-filter test (λ x. is_gt (cmp (key y) (key x))) (is_gt (cmp (key y) k)) (λ x e. ap is_gt (same_side (key y) k x e)) xs i)
      (cond (is_eq (cmp k (key y))) (Some y) (find-filter test (λ x. is_lt (cmp (key y) (key x))) (is_lt (cmp (key y) k)) (λ x e. ap is_lt (same_side (key y) k x e)) xs i)))
      ∙ by (cmp (key y) k) (cmp k (key y)) (o.antisymm k (key y)) (find test xs)
    where
      test : T → Bool
      test x = is_eq (cmp k (key x))

      by : (r s : Ordering) → s ≡ ordering_reverse r → (found : Option T)
          → option_or (cond (is_gt r) found None) (cond (is_eq s) (Some y) (cond (is_lt r) found None)) ≡ cond (is_eq s) (Some y) found
      by Less s e found = refl
      by Equal s e found = (λ i. cond (is_eq (e i)) (Some y) None) ∙ (λ i. cond (is_eq (sym e i)) (Some y) found)
      by Greater s e found =
          (λ i. option_or found (cond (is_eq (e i)) (Some y) None)) ∙ or_none found ∙ (λ i. cond (is_eq (sym e i)) (Some y) found)

  -- several items put in, of which at most one kind stands at the key
  pub item_at-with_all : {I : Type 0} (make : I → T) (k : K) (made : T) → ((i : I) → is_eq (cmp k (key (make i))) ≡ true → make i ≡ made) → (is : List I) (xs : List T)
      → item_at key cmp k (with_all key cmp (map make is) xs) ≡ cond (list_any (λ i. is_eq (cmp k (key (make i)))) is) (Some made) (item_at key cmp k xs)
  item_at-with_all make k made f [] xs = refl
  item_at-with_all make k made f (i ∷ is) xs =
      item_at-with_all make k made f is (with_item key cmp (make i) xs)
      ∙ ap (cond (list_any (λ j. is_eq (cmp k (key (make j)))) is) (Some made)) (item_at-with_item k (make i) xs)
      ∙ either (is_eq (cmp k (key (make i)))) refl (list_any (λ j. is_eq (cmp k (key (make j)))) is)
    where
      either : (a : Bool) → is_eq (cmp k (key (make i))) ≡ a → (b : Bool) → cond b (Some made) (cond a (Some (make i)) (item_at key cmp k xs)) ≡ cond (a || b) (Some made) (item_at key cmp k xs)
      either true e true = refl
      either true e false = ap Some (f i e)
      either false e b = refl

-- items made of rising things rise
module _ {I T : Type 0} (make : I → T) (under : I → I → Ordering) (cmp : T → T → Ordering) (rises : (i j : I) → under i j ≡ Less → cmp (make i) (make j) ≡ Less) where
  pub rising-map : (is : List I) → IsStrictlySortedBy under is → IsStrictlySortedBy cmp (map make is)
  unfolding IsStrictlySortedBy
  rising-map [] s = tt
  rising-map (i ∷ is) s = (above is s.0, rising-map is s.1)
    where
      above : (js : List I) → AllByRecursion (λ j. under i j ≡ Less) js → AllByRecursion (λ t. cmp (make i) t ≡ Less) (map make js)
      above [] a = tt
      above (j ∷ js) a = (rises i j a.0, above js a.1)
