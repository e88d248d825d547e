-- What rising items have at, below and above a key, and what several changes leave of the parts of a list.
use Rattle.std.proofs.Common.{◌≡◌, ◌≤◌, ◌+◌, ℕ, length, Bool, true, false, not, cond, List, [], ◌∷◌, ◌++◌, refl, sym, ap, ◌∙◌, subst, append_assoc, append-nil, arith}
use Rattle.std.proofs.lemmas.List.Elements.{filter-append}
use Rattle.std.proofs.lemmas.List.Kept.{IsStrictlySortedBy-filter}
use Rattle.std.specs.Cmp.{IsTotalOrder}
use Rattle.std.specs.List.{AllByRecursion}
use Rattle.std.specs.List.Sorted.{IsStrictlySortedBy}
use Rattle.std.specs.Ordering.{is_eq, is_gt, is_le, is_lt, ordering_reverse}
use Rattle.std.specs.declared.cmp.Ordering.{Ordering}
use Rattle.std.specs.declared.cmp.Ordering.TheVariants.{Less, Equal, Greater}
use Rattle.nm_blocks.specs.Cut.{AllBelow, AllAbove}
use Rattle.nm_blocks.specs.Items.{item_cmp, IsRising, items_below, items_above, with_item, with_all, without, without_all}
use Rattle.nm_blocks.proofs.Lists.{all_weaker, all_both, filter_all, filter_none, filter_tested, all_filtered, rising_both, rising_first, rising_others, rising_more}

module _ {K : Type 0} {cmp : K → K → Ordering} (o : IsTotalOrder cmp) where
  pub reversed : (x y : K) (r : Ordering) → cmp x y ≡ r → cmp y x ≡ ordering_reverse r
  reversed x y r e = o.antisymm y x ∙ ap ordering_reverse e

  pub less_by : (x y : K) (r : Ordering) → cmp x y ≡ r → is_lt r ≡ true → cmp x y ≡ Less
  less_by x y Less e h = e
  less_by x y Equal e h = absurd cc
  less_by x y Greater e h = absurd cc

  greater_by : (x y : K) (r : Ordering) → cmp x y ≡ r → is_gt r ≡ true → cmp y x ≡ Less
  greater_by x y Less e h = absurd cc
  greater_by x y Equal e h = absurd cc
  greater_by x y Greater e h = reversed x y Greater e

  -- what is above another that is not below a key is above the key
  pub above_through : (x k y : K) (r : Ordering) → cmp x k ≡ r → is_lt r ≡ false → cmp x y ≡ Less → cmp k y ≡ Less
  above_through x k y Less e h less = absurd cc
  above_through x k y Equal e h less = sym (o.congr x k y e) ∙ less
  above_through x k y Greater e h less = o.trans k x y (reversed x k Greater e) less

  -- what is below another that is not above a key is below the key
  pub below_through : (y x k : K) (r : Ordering) → cmp x k ≡ r → is_le r ≡ true → cmp y x ≡ Less → cmp y k ≡ Less
  below_through y x k Less e h less = o.trans y x k less e
  below_through y x k Equal e h less = reversed k y Greater (sym (o.congr x k y e) ∙ reversed y x Less less)
  below_through y x k Greater e h less = absurd cc

  -- what is not above a key is below all that is above it
  pub early_through : (x k z : K) (r : Ordering) → cmp x k ≡ r → is_le r ≡ true → cmp k z ≡ Less → cmp x z ≡ Less
  early_through x k z Less e h less = o.trans x k z e less
  early_through x k z Equal e h less = o.congr x k z e ∙ less
  early_through x k z Greater e h less = absurd cc

  -- what is not up to a key is above it
  pub not_up_to : (x k : K) (r : Ordering) → cmp x k ≡ r → is_le r ≡ false → cmp k x ≡ Less
  not_up_to x k Less e h = absurd cc
  not_up_to x k Equal e h = absurd cc
  not_up_to x k Greater e h = reversed x k Greater e

module _ {T K : Type 0} (key : T → K) {cmp : K → K → Ordering} (o : IsTotalOrder cmp) where
  -- a list on one side of a key
  module _ (k : K) (xs : List T) where
    below_of_below : AllBelow key cmp k xs → items_below key cmp k xs ≡ xs
    below_of_below all = filter_all _ xs (all_weaker _ _ (λ x e. ap is_gt (reversed o (key x) k Less e)) xs all)

    above_of_below : AllBelow key cmp k xs → items_above key cmp k xs ≡ []
    above_of_below all = filter_none _ xs (all_weaker _ _ (λ x e. ap is_lt (reversed o (key x) k Less e)) xs all)

    pub below_of_above : AllAbove key cmp k xs → items_below key cmp k xs ≡ []
    below_of_above all = filter_none _ xs (all_weaker _ _ (λ x e. ap is_gt e) xs all)

    pub above_of_above : AllAbove key cmp k xs → items_above key cmp k xs ≡ xs
    above_of_above all = filter_all _ xs (all_weaker _ _ (λ x e. ap is_lt e) xs all)

    without_of_below : AllBelow key cmp k xs → without key cmp k xs ≡ xs
    without_of_below all = filter_all _ xs (all_weaker _ _ (λ x e. ap (λ r. not (is_eq r)) (reversed o (key x) k Less e)) xs all)

    without_of_above : AllAbove key cmp k xs → without key cmp k xs ≡ xs
    without_of_above all = filter_all _ xs (all_weaker _ _ (λ x e. ap (λ r. not (is_eq r)) e) xs all)

    pub items_below-below : AllBelow key cmp k (items_below key cmp k xs)
    items_below-below = all_weaker _ _ (λ x h. greater_by o k (key x) (cmp k (key x)) refl h) (items_below key cmp k xs) (filter_tested _ xs)

    pub items_above-above : AllAbove key cmp k (items_above key cmp k xs)
    items_above-above = all_weaker _ _ (λ x h. less_by o k (key x) (cmp k (key x)) refl h) (items_above key cmp k xs) (filter_tested _ xs)

    pub rising_above : IsRising key cmp xs → IsRising key cmp (items_above key cmp k xs)
    rising_above s = IsStrictlySortedBy-filter (item_cmp key cmp) _ xs s

  -- one change, of a list in two parts
  pub with_item-behind : (y : T) (l m : List T) → AllBelow key cmp (key y) l → with_item key cmp y (l ++ m) ≡ l ++ with_item key cmp y m
  with_item-behind y l m below =
      let k = key y in
      let low : items_below key cmp k (l ++ m) ≡ l ++ items_below key cmp k m = filter-append _ l m ∙ ap (λ xs. xs ++ items_below key cmp k m) (below_of_below k l below) in
      let high : items_above key cmp k (l ++ m) ≡ items_above key cmp k m = filter-append _ l m ∙ ap (λ xs. xs ++ items_above key cmp k m) (above_of_below k l below) in
      ap (λ xs. xs ++ y ∷ items_above key cmp k (l ++ m)) low ∙ ap (λ xs. (l ++ items_below key cmp k m) ++ y ∷ xs) high ∙ append_assoc l (items_below key cmp k m) (y ∷ items_above key cmp k m)

  pub with_item-before : (y : T) (l m : List T) → AllAbove key cmp (key y) m → with_item key cmp y (l ++ m) ≡ with_item key cmp y l ++ m
  with_item-before y l m above =
      let k = key y in
      let low : items_below key cmp k (l ++ m) ≡ items_below key cmp k l = filter-append _ l m ∙ ap (λ xs. items_below key cmp k l ++ xs) (below_of_above k m above) ∙ append-nil _ in
      let high : items_above key cmp k (l ++ m) ≡ items_above key cmp k l ++ m = filter-append _ l m ∙ ap (λ xs. items_above key cmp k l ++ xs) (above_of_above k m above) in
      ap (λ xs. xs ++ y ∷ items_above key cmp k (l ++ m)) low ∙ ap (λ xs. items_below key cmp k l ++ y ∷ xs) high ∙ sym (append_assoc (items_below key cmp k l) (y ∷ items_above key cmp k l) m)

  pub without-behind : (k : K) (l m : List T) → AllBelow key cmp k l → without key cmp k (l ++ m) ≡ l ++ without key cmp k m
  without-behind k l m below = filter-append _ l m ∙ ap (λ xs. xs ++ without key cmp k m) (without_of_below k l below)

  pub without-before : (k : K) (l m : List T) → AllAbove key cmp k m → without key cmp k (l ++ m) ≡ without key cmp k l ++ m
  without-before k l m above = filter-append _ l m ∙ ap (λ xs. without key cmp k l ++ xs) (without_of_above k m above)

  -- the same of several
  pub with_all-behind : (ys l m : List T) → AllByRecursion (λ y. AllBelow key cmp (key y) l) ys → with_all key cmp ys (l ++ m) ≡ l ++ with_all key cmp ys m
  with_all-behind [] l m below = refl
  with_all-behind (y ∷ ys) l m below = ap (with_all key cmp ys) (with_item-behind y l m below.0) ∙ with_all-behind ys l (with_item key cmp y m) below.1

  pub with_all-before : (ys l m : List T) → AllByRecursion (λ y. AllAbove key cmp (key y) m) ys → with_all key cmp ys (l ++ m) ≡ with_all key cmp ys l ++ m
  with_all-before [] l m above = refl
  with_all-before (y ∷ ys) l m above = ap (with_all key cmp ys) (with_item-before y l m above.0) ∙ with_all-before ys (with_item key cmp y l) m above.1

  pub with_all-append : (ys zs xs : List T) → with_all key cmp (ys ++ zs) xs ≡ with_all key cmp zs (with_all key cmp ys xs)
  with_all-append [] zs xs = refl
  with_all-append (y ∷ ys) zs xs = with_all-append ys zs (with_item key cmp y xs)

  pub without_all-behind : (ks : List K) (l m : List T) → AllByRecursion (λ k. AllBelow key cmp k l) ks → without_all key cmp ks (l ++ m) ≡ l ++ without_all key cmp ks m
  without_all-behind [] l m below = refl
  without_all-behind (k ∷ ks) l m below = ap (without_all key cmp ks) (without-behind k l m below.0) ∙ without_all-behind ks l (without key cmp k m) below.1

  pub without_all-before : (ks : List K) (l m : List T) → AllByRecursion (λ k. AllAbove key cmp k m) ks → without_all key cmp ks (l ++ m) ≡ without_all key cmp ks l ++ m
  without_all-before [] l m above = refl
  without_all-before (k ∷ ks) l m above = ap (without_all key cmp ks) (without-before k l m above.0) ∙ without_all-before ks (without key cmp k l) m above.1

  pub without_all-append : (ks js : List K) (xs : List T) → without_all key cmp (ks ++ js) xs ≡ without_all key cmp js (without_all key cmp ks xs)
  without_all-append [] js xs = refl
  without_all-append (k ∷ ks) js xs = without_all-append ks js (without key cmp k xs)

  pub with_all-none : (ys : List T) → IsRising key cmp ys → with_all key cmp ys [] ≡ ys
  with_all-none [] s = refl
  with_all-none (y ∷ ys) s =
      with_all-behind ys (y ∷ []) [] (all_weaker _ _ (λ z less. (less, tt)) ys (rising_first (item_cmp key cmp) y ys s)) ∙ ap (λ zs. y ∷ zs) (with_all-none ys (rising_others (item_cmp key cmp) y ys s))

  pub without_all-none : (ks : List K) → without_all key cmp ks [] ≡ []
  without_all-none [] = refl
  without_all-none (k ∷ ks) = without_all-none ks

  -- what all have, all have after a change
  pub all_with_all : (P : T → Type 0) (ys xs : List T) → AllByRecursion P ys → AllByRecursion P xs → AllByRecursion P (with_all key cmp ys xs)
  all_with_all P [] xs ps all = all
  all_with_all P (y ∷ ys) xs ps all =
      all_with_all P ys (with_item key cmp y xs) ps.1 (all_both P (items_below key cmp (key y) xs) (y ∷ items_above key cmp (key y) xs) (all_filtered P _ xs all) (ps.0, all_filtered P _ xs all))

  pub all_without_all : (P : T → Type 0) (ks : List K) (xs : List T) → AllByRecursion P xs → AllByRecursion P (without_all key cmp ks xs)
  all_without_all P [] xs all = all
  all_without_all P (k ∷ ks) xs all = all_without_all P ks (without key cmp k xs) (all_filtered P _ xs all)

  -- nothing is taken out twice
  fewer_by : (x : T) (xs : List T) (b : Bool) (n : ℕ) → length xs ≤ n → length (cond b (x ∷ xs) xs) ≤ n + 1
  fewer_by x xs true n most = omega (arith, most)
  fewer_by x xs false n most = omega (arith, most)

  pub length_without : (k : K) (xs : List T) → length (without key cmp k xs) ≤ length xs
  length_without k [] = omega arith
  length_without k (x ∷ xs) =
      let most = fewer_by x (without key cmp k xs) (not (is_eq (cmp k (key x)))) (length xs) (length_without k xs) in
      let all : length (x ∷ xs) ≡ length xs + 1 = omega arith in
      subst (λ n. length (without key cmp k (x ∷ xs)) ≤ n) (sym all) most

  pub length_without_all : (ks : List K) (xs : List T) → length (without_all key cmp ks xs) ≤ length xs
  length_without_all [] xs = omega arith
  length_without_all (k ∷ ks) xs = omega (arith, length_without_all ks (without key cmp k xs), length_without k xs)

  -- it rises as before
  pub rising_with_item : (y : T) (xs : List T) → IsRising key cmp xs → IsRising key cmp (with_item key cmp y xs)
  rising_with_item y xs s =
      let k = key y in
      let low = items_below key cmp k xs in
      let high = items_above key cmp k xs in
      rising_both (item_cmp key cmp) low (y ∷ high) (IsStrictlySortedBy-filter (item_cmp key cmp) _ xs s)
      (rising_more (item_cmp key cmp) y high (items_above-above k xs) (rising_above k xs s))
      (all_weaker _ _ (λ x less. (less, all_weaker _ _ (λ z more. o.trans (key x) k (key z) less more) high (items_above-above k xs))) low (items_below-below k xs))

  pub rising_with_all : (ys xs : List T) → IsRising key cmp xs → IsRising key cmp (with_all key cmp ys xs)
  rising_with_all [] xs s = s
  rising_with_all (y ∷ ys) xs s = rising_with_all ys (with_item key cmp y xs) (rising_with_item y xs s)

  pub rising_without : (k : K) (xs : List T) → IsRising key cmp xs → IsRising key cmp (without key cmp k xs)
  rising_without k xs s = IsStrictlySortedBy-filter (item_cmp key cmp) _ xs s

  pub rising_without_all : (ks : List K) (xs : List T) → IsRising key cmp xs → IsRising key cmp (without_all key cmp ks xs)
  rising_without_all [] xs s = s
  rising_without_all (k ∷ ks) xs s = rising_without_all ks (without key cmp k xs) (rising_without k xs s)

  -- one of several changes, of one list
  pub merged_one : (y : T) (ys xs : List T) → IsRising key cmp (y ∷ ys) → with_all key cmp (y ∷ ys) xs ≡ (items_below key cmp (key y) xs ++ y ∷ []) ++ with_all key cmp ys (items_above key cmp (key y) xs)
  merged_one y ys xs s =
      let low = items_below key cmp (key y) xs in
      let high = items_above key cmp (key y) xs in
      ap (with_all key cmp ys) (sym (append_assoc low (y ∷ []) high))
      ∙ with_all-behind ys (low ++ y ∷ []) high
      (all_weaker _ _ (λ z less. all_both _ low (y ∷ []) (all_weaker _ _ (λ x under. o.trans (key x) (key y) (key z) under less) low (items_below-below (key y) xs)) (less, tt)) ys (rising_first (item_cmp key cmp) y ys s))

  -- the parts of a rising list beside a key
  part_by : (k : K) (x : T) (xs : List T) → IsRising key cmp (x ∷ xs) → (r : Ordering) → cmp k (key x) ≡ r → (items_below key cmp k xs ++ items_above key cmp k xs ≡ without key cmp k xs)
      → cond (is_gt r) (x ∷ items_below key cmp k xs) (items_below key cmp k xs) ++ cond (is_lt r) (x ∷ items_above key cmp k xs) (items_above key cmp k xs) ≡ cond (not (is_eq r)) (x ∷ without key cmp k xs) (without key cmp k xs)
  part_by k x xs s Less e same =
      let above : AllAbove key cmp k xs = all_weaker _ _ (λ y less. o.trans k (key x) (key y) e less) xs (rising_first (item_cmp key cmp) x xs s) in
      ap (λ ys. ys ++ x ∷ items_above key cmp k xs) (below_of_above k xs above) ∙ ap (λ ys. x ∷ ys) (above_of_above k xs above ∙ sym (without_of_above k xs above))
  part_by k x xs s Equal e same = same
  part_by k x xs s Greater e same = ap (λ ys. x ∷ ys) same

  pub parts_beside : (k : K) (xs : List T) → IsRising key cmp xs → items_below key cmp k xs ++ items_above key cmp k xs ≡ without key cmp k xs
  parts_beside k [] s = refl
  parts_beside k (x ∷ xs) s = part_by k x xs s (cmp k (key x)) refl (parts_beside k xs (rising_others (item_cmp key cmp) x xs s))

  pub kept_one : (k : K) (ks : List K) (xs : List T) → IsStrictlySortedBy cmp (k ∷ ks) → IsRising key cmp xs → without_all key cmp (k ∷ ks) xs ≡ items_below key cmp k xs ++ without_all key cmp ks (items_above key cmp k xs)
  kept_one k ks xs s rising =
      let low = items_below key cmp k xs in
      let high = items_above key cmp k xs in
      ap (without_all key cmp ks) (sym (parts_beside k xs rising))
      ∙ without_all-behind ks low high
      (all_weaker _ _ (λ j less. all_weaker _ _ (λ x under. o.trans (key x) k j under less) low (items_below-below k xs)) ks (rising_first cmp k ks s))
