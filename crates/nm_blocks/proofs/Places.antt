-- Where a test ends to pass along a list, and searches in rising items.
use Rattle.std.proofs.Common.{◌≡◌, ◌≤◌, ◌<◌, ◌+◌, ◌-◌, ℕ, zero, suc, Bool, true, false, not, cond, None, Some, Option, List, [], ◌∷◌, ◌++◌, refl, sym, ap, ◌∙◌, subst, length, map, take, drop, arith}
use Rattle.std.proofs.lemmas.List.Elements.{All-from_recursion}
use Rattle.std.proofs.lemmas.List.Sums.{prefix_len_is}
use Rattle.std.specs.Cmp.{IsTotalOrder}
use Rattle.std.specs.List.{AllByRecursion, find, prefix_len, slice_get}
use Rattle.std.specs.List.Sorted.{IsPartitionPoint, IsPartitionedBy}
use Rattle.std.specs.Ordering.{is_eq, is_gt, is_le, is_lt, ordering_reverse}
use Rattle.std.specs.declared.cmp.Ordering.{Ordering}
use Rattle.std.specs.declared.cmp.Ordering.TheVariants.{Less, Equal, Greater}
use Rattle.nm_blocks.specs.Cut.{AllBelow, AllAbove}
use Rattle.nm_blocks.specs.Items.{item_cmp, IsRising, is_below, is_up_to, behind_of, ends_below, items_below, items_above, first_from, item_at}
use Rattle.nm_blocks.proofs.Lists.{all_weaker, Across, rising_first, rising_others}
use Rattle.nm_blocks.proofs.Around.{less_by, above_through, below_through, below_of_above, above_of_above}

pub one_plus : (n : ℕ) → 1 + n ≡ suc n
one_plus n = omega arith

module _ {X : Type 0} (p : X → Bool) where
  -- what passes is followed by nothing that makes it fail: once one fails, all later ones do
  abbrev pub Falls : List X → Type 0
  Falls [] = Unit {0}
  Falls (x ∷ xs) = AllByRecursion (λ y. p y ≡ true → p x ≡ true) xs × Falls xs

  pub partitioned : (xs : List X) → Falls xs → IsPartitionedBy p xs
  partitioned [] f i j d most within h = absurd (omega (arith, within))
  partitioned (x ∷ xs) f zero zero d most within h = h
  partitioned (x ∷ xs) f zero (suc j) d most within h = All-from_recursion (λ y. p y ≡ true → p x ≡ true) xs f.0 j d (omega (arith, within)) h
  partitioned (x ∷ xs) f (suc i) zero d most within h = absurd (omega (arith, most))
  partitioned (x ∷ xs) f (suc i) (suc j) d most within h = partitioned xs f.1 i j d (omega (arith, most)) (omega (arith, within)) h

  -- where a test holds up to a place and not from there on, that place ends the elements that pass
  pub counted : (xs : List X) (n : ℕ) → n ≤ length xs → IsPartitionPoint (λ y. p y ≡ true) (λ y. p y ≡ false) xs n → n ≡ prefix_len p xs
  counted [] n within point = omega (arith, within)
  counted (x ∷ xs) n within point = sym (prefix_len_is p (x ∷ xs) n x within (λ k h. point.0 k x (omega arith) h) (λ h. point.1 n x (omega arith) h))

  pub front_passes : (xs : List X) → AllByRecursion (λ x. p x ≡ true) (take (prefix_len p xs) xs)
  front_passes [] = tt
  front_passes (x ∷ xs) = by (p x) refl (front_passes xs)
    where
      by : (b : Bool) → p x ≡ b → AllByRecursion (λ y. p y ≡ true) (take (prefix_len p xs) xs) → AllByRecursion (λ y. p y ≡ true) (take (cond b (1 + prefix_len p xs) 0) (x ∷ xs))
      by true e others = rw (one_plus (prefix_len p xs)) (e, others)
      by false e others = tt

  fails_by : (b c : Bool) → c ≡ false → (b ≡ true → c ≡ true) → b ≡ false
  fails_by true c e f = sym (f refl) ∙ e
  fails_by false c e f = refl

  pub rest_fails : (xs : List X) → Falls xs → AllByRecursion (λ x. p x ≡ false) (drop (prefix_len p xs) xs)
  rest_fails [] f = tt
  rest_fails (x ∷ xs) f = by (p x) refl (rest_fails xs f.1)
    where
      by : (b : Bool) → p x ≡ b → AllByRecursion (λ y. p y ≡ false) (drop (prefix_len p xs) xs) → AllByRecursion (λ y. p y ≡ false) (drop (cond b (1 + prefix_len p xs) 0) (x ∷ xs))
      by true e others = rw (one_plus (prefix_len p xs)) others
      by false e others = (e, all_weaker _ _ (λ y h. fails_by (p y) (p x) e h) xs f.0)

  pub stops : (xs : List X) (y : X) (ys : List X) → drop (prefix_len p xs) xs ≡ y ∷ ys → p y ≡ false
  stops [] y ys e = absurd cc
  stops (x ∷ xs) y ys e = by (p x) refl (stops xs y ys) e
    where
      by : (b : Bool) → p x ≡ b → (drop (prefix_len p xs) xs ≡ y ∷ ys → p y ≡ false) → drop (cond b (1 + prefix_len p xs) 0) (x ∷ xs) ≡ y ∷ ys → p y ≡ false
      by true e others h = others (rw (one_plus (prefix_len p xs)) at h)
      by false e others h = let same : x ≡ y = cc in ap p (sym same) ∙ e

  -- the first that does not pass
  pub first_failing : (xs : List X) → slice_get (drop (prefix_len p xs) xs) 0 ≡ find (λ x. not (p x)) xs
  first_failing [] = refl
  first_failing (x ∷ xs) = by (p x) (first_failing xs)
    where
      by : (b : Bool) → slice_get (drop (prefix_len p xs) xs) 0 ≡ find (λ y. not (p y)) xs → slice_get (drop (cond b (1 + prefix_len p xs) 0) (x ∷ xs)) 0 ≡ cond (not b) (Some x) (find (λ y. not (p y)) xs)
      by true others = rw (one_plus (prefix_len p xs)) others
      by false others = refl

pub take_whole : {X : Type 0} (xs : List X) → take (length xs) xs ≡ xs
take_whole [] = refl
take_whole (x ∷ xs) = ap (λ ys. x ∷ ys) (take_whole xs)

pub drop_whole : {X : Type 0} (xs : List X) → drop (length xs) xs ≡ []
drop_whole [] = refl
drop_whole (x ∷ xs) = drop_whole xs

pub prefix_len-map : {X Y : Type 0} (p : Y → Bool) (f : X → Y) (xs : List X) → prefix_len (λ x. p (f x)) xs ≡ prefix_len p (map f xs)
prefix_len-map p f [] = refl
prefix_len-map p f (x ∷ xs) = ap (λ n. cond (p (f x)) (1 + n) 0) (prefix_len-map p f xs)

module _ {T K : Type 0} (key : T → K) {cmp : K → K → Ordering} (o : IsTotalOrder cmp) where
  pub falls_below : (k : K) (xs : List T) → IsRising key cmp xs → Falls (is_below key cmp k) xs
  falls_below k [] s = tt
  falls_below k (x ∷ xs) s =
      (all_weaker _ _ (λ y less h. ap is_lt (o.trans (key x) (key y) k less (less_by o (key y) k (cmp (key y) k) refl h))) xs (rising_first (item_cmp key cmp) x xs s), falls_below k xs (rising_others (item_cmp key cmp) x xs s))

  le_of_less : (r : Ordering) → r ≡ Less → is_le r ≡ true
  le_of_less r e = ap is_le e

  pub falls_up_to : (k : K) (xs : List T) → IsRising key cmp xs → Falls (is_up_to key cmp k) xs
  falls_up_to k [] s = tt
  falls_up_to k (x ∷ xs) s =
      (all_weaker _ _ (λ y less h. le_of_less (cmp (key x) k) (below_through o (key x) (key y) k (cmp (key y) k) refl h less)) xs (rising_first (item_cmp key cmp) x xs s), falls_up_to k xs (rising_others (item_cmp key cmp) x xs s))

  -- all behind an item that is not below the key are above it
  all_above : (k : K) (x : T) (xs : List T) → IsRising key cmp (x ∷ xs) → is_lt (cmp (key x) k) ≡ false → AllAbove key cmp k xs
  all_above k x xs s h = all_weaker _ _ (λ y less. above_through o (key x) k (key y) (cmp (key x) k) refl h less) xs (rising_first (item_cmp key cmp) x xs s)

  taken_by : (k : K) (x : T) (xs : List T) (r q : Ordering) → q ≡ ordering_reverse r → (is_lt r ≡ false → items_below key cmp k xs ≡ []) → take (prefix_len (is_below key cmp k) xs) xs ≡ items_below key cmp k xs
      → take (cond (is_lt r) (1 + prefix_len (is_below key cmp k) xs) 0) (x ∷ xs) ≡ cond (is_gt q) (x ∷ items_below key cmp k xs) (items_below key cmp k xs)
  taken_by k x xs Less q e none others =
      ap (λ n. take n (x ∷ xs)) (one_plus (prefix_len (is_below key cmp k) xs)) ∙ ap (λ ys. x ∷ ys) others ∙ sym (ap (λ p. cond (is_gt p) (x ∷ items_below key cmp k xs) (items_below key cmp k xs)) e)
  taken_by k x xs Equal q e none others = sym (ap (λ p. cond (is_gt p) (x ∷ items_below key cmp k xs) (items_below key cmp k xs)) e ∙ none refl)
  taken_by k x xs Greater q e none others = sym (ap (λ p. cond (is_gt p) (x ∷ items_below key cmp k xs) (items_below key cmp k xs)) e ∙ none refl)

  pub taken_below : (k : K) (xs : List T) → IsRising key cmp xs → take (prefix_len (is_below key cmp k) xs) xs ≡ items_below key cmp k xs
  taken_below k [] s = refl
  taken_below k (x ∷ xs) s =
      taken_by k x xs (cmp (key x) k) (cmp k (key x)) (o.antisymm k (key x)) (λ h. below_of_above key o k xs (all_above k x xs s h)) (taken_below k xs (rising_others (item_cmp key cmp) x xs s))

  left_by : (k : K) (x : T) (xs : List T) (r : Ordering) → cmp k (key x) ≡ ordering_reverse r → (is_lt r ≡ false → items_above key cmp k xs ≡ xs) → behind_of key cmp k (drop (prefix_len (is_below key cmp k) xs) xs) ≡ items_above key cmp k xs
      → behind_of key cmp k (drop (cond (is_lt r) (1 + prefix_len (is_below key cmp k) xs) 0) (x ∷ xs)) ≡ cond (is_lt (ordering_reverse r)) (x ∷ items_above key cmp k xs) (items_above key cmp k xs)
  left_by k x xs Less e all others = ap (λ n. behind_of key cmp k (drop n (x ∷ xs))) (one_plus (prefix_len (is_below key cmp k) xs)) ∙ others
  left_by k x xs Equal e all others = ap (λ q. cond (is_eq q) xs (x ∷ xs)) e ∙ sym (all refl)
  left_by k x xs Greater e all others = ap (λ q. cond (is_eq q) xs (x ∷ xs)) e ∙ ap (λ ys. x ∷ ys) (sym (all refl))

  pub left_above : (k : K) (xs : List T) → IsRising key cmp xs → behind_of key cmp k (drop (prefix_len (is_below key cmp k) xs) xs) ≡ items_above key cmp k xs
  left_above k [] s = refl
  left_above k (x ∷ xs) s =
      left_by k x xs (cmp (key x) k) (o.antisymm k (key x)) (λ h. above_of_above key o k xs (all_above k x xs s h)) (left_above k xs (rising_others (item_cmp key cmp) x xs s))
      ∙ ap (λ q. cond (is_lt q) (x ∷ items_above key cmp k xs) (items_above key cmp k xs)) (sym (o.antisymm k (key x)))

  -- the last of some items
  last_of : (x y : T) (ys : List T) → slice_get (x ∷ y ∷ ys) (length (x ∷ y ∷ ys) - 1) ≡ slice_get (y ∷ ys) (length (y ∷ ys) - 1)
  last_of x y ys = let one : length (x ∷ y ∷ ys) - 1 ≡ suc (length (y ∷ ys) - 1) = omega arith in ap (slice_get (x ∷ y ∷ ys)) one

  pub ends_by_last : (k : K) (xs : List T) (last : T) → slice_get xs (length xs - 1) ≡ Some last → ends_below key cmp k xs ≡ is_below key cmp k last
  ends_by_last k [] last e = absurd cc
  ends_by_last k (x ∷ []) last e = let same : x ≡ last = cc in ap (is_below key cmp k) same
  ends_by_last k (x ∷ y ∷ ys) last e = ends_by_last k (y ∷ ys) last (sym (last_of x y ys) ∙ e)

  pub ends_without_last : (k : K) (xs : List T) → slice_get xs (length xs - 1) ≡ None → ends_below key cmp k xs ≡ true
  ends_without_last k [] e = refl
  ends_without_last k (x ∷ []) e = absurd cc
  ends_without_last k (x ∷ y ∷ ys) e = ends_without_last k (y ∷ ys) (sym (last_of x y ys) ∙ e)

  pub has_last : (xs : List T) → 0 < length xs → None ≡ slice_get xs (length xs - 1) → ⊥
  has_last [] some e = absurd (omega (arith, some))
  has_last (x ∷ []) some e = absurd cc
  has_last (x ∷ y ∷ ys) some e = has_last (y ∷ ys) (omega arith) (e ∙ last_of x y ys)

  pub at_last : (P : T → Type 0) (xs : List T) (last : T) → slice_get xs (length xs - 1) ≡ Some last → AllByRecursion P xs → P last
  at_last P [] last e all = absurd cc
  at_last P (x ∷ []) last e all = let same : x ≡ last = cc in subst P same all.0
  at_last P (x ∷ y ∷ ys) last e all = at_last P (y ∷ ys) last (sym (last_of x y ys) ∙ e) all.1

  pub ends_all : (k : K) (xs : List T) → IsRising key cmp xs → ends_below key cmp k xs ≡ true → AllBelow key cmp k xs
  ends_all k [] s h = tt
  ends_all k (x ∷ []) s h = (less_by o (key x) k (cmp (key x) k) refl h, tt)
  ends_all k (x ∷ y ∷ ys) s h =
      let others = ends_all k (y ∷ ys) (rising_others (item_cmp key cmp) x (y ∷ ys) s) h in
      let first = rising_first (item_cmp key cmp) x (y ∷ ys) s in
      (o.trans (key x) (key y) k first.0 others.0, others)

  pub all_ends : (k : K) (xs : List T) → AllBelow key cmp k xs → ends_below key cmp k xs ≡ true
  all_ends k [] all = refl
  all_ends k (x ∷ []) all = ap is_lt all.0
  all_ends k (x ∷ y ∷ ys) all = all_ends k (y ∷ ys) all.1

  pub above_all : (k : K) (xs ys : List T) → ends_below key cmp k xs ≡ false → Across (item_cmp key cmp) xs ys → AllAbove key cmp k ys
  above_all k [] ys h across = absurd cc
  above_all k (x ∷ []) ys h across = all_weaker _ _ (λ y less. above_through o (key x) k (key y) (cmp (key x) k) refl h less) ys across.0
  above_all k (x ∷ y ∷ xs) ys h across = above_all k (y ∷ xs) ys h across.1

  -- what is found by a search from a key on
  pub found_behind : (k : K) (xs ys : List T) → AllBelow key cmp k xs → first_from key cmp k (xs ++ ys) ≡ first_from key cmp k ys
  found_behind k [] ys all = refl
  found_behind k (x ∷ xs) ys all = ap (λ r. cond (not (is_lt r)) (Some x) (first_from key cmp k (xs ++ ys))) all.0 ∙ found_behind k xs ys all.1

  pub found_here : (k : K) (xs ys : List T) → ends_below key cmp k xs ≡ false → first_from key cmp k (xs ++ ys) ≡ first_from key cmp k xs
  found_here k [] ys h = absurd cc
  found_here k (x ∷ []) ys h = ap (λ b. cond (not b) (Some x) (first_from key cmp k ys)) h ∙ sym (ap (λ b. cond (not b) (Some x) None) h)
  found_here k (x ∷ y ∷ xs) ys h = ap (λ r. cond (not (is_below key cmp k x)) (Some x) r) (found_here k (y ∷ xs) ys h)

  -- the item at a key is the first one from there on, if it has the key
  found_none : (k : K) (xs : List T) → AllAbove key cmp k xs → item_at key cmp k xs ≡ None
  found_none k [] all = refl
  found_none k (x ∷ xs) all = ap (λ r. cond (is_eq r) (Some x) (item_at key cmp k xs)) all.0 ∙ found_none k xs all.1

  abbrev pub if_at : K → Option T → Option T
  if_at k None = None
  if_at k (Some x) = cond (is_eq (cmp k (key x))) (Some x) None

  at_by : (k : K) (x : T) (xs : List T) (r : Ordering) → cmp k (key x) ≡ ordering_reverse r → (is_lt r ≡ false → item_at key cmp k xs ≡ None) → item_at key cmp k xs ≡ if_at k (first_from key cmp k xs)
      → cond (is_eq (cmp k (key x))) (Some x) (item_at key cmp k xs) ≡ if_at k (cond (not (is_lt r)) (Some x) (first_from key cmp k xs))
  at_by k x xs Less e none others = ap (λ q. cond (is_eq q) (Some x) (item_at key cmp k xs)) e ∙ others
  at_by k x xs Equal e none others = ap (cond (is_eq (cmp k (key x))) (Some x)) (none refl)
  at_by k x xs Greater e none others = ap (cond (is_eq (cmp k (key x))) (Some x)) (none refl)

  pub item_at-first_from : (k : K) (xs : List T) → IsRising key cmp xs → item_at key cmp k xs ≡ if_at k (first_from key cmp k xs)
  item_at-first_from k [] s = refl
  item_at-first_from k (x ∷ xs) s =
      at_by k x xs (cmp (key x) k) (o.antisymm k (key x)) (λ h. found_none k xs (all_above k x xs s h)) (item_at-first_from k xs (rising_others (item_cmp key cmp) x xs s))

  module _ (k : K) (xs : List T) (s : IsRising key cmp xs) where
    pub found_at : (x : T) → Some x ≡ first_from key cmp k xs → is_eq (cmp k (key x)) ≡ true → Some x ≡ item_at key cmp k xs
    found_at x e h = sym (item_at-first_from k xs s ∙ ap (if_at k) (sym e) ∙ ap (λ b. cond b (Some x) None) h)

    pub found_beside : (x : T) → Some x ≡ first_from key cmp k xs → is_eq (cmp k (key x)) ≡ false → None ≡ item_at key cmp k xs
    found_beside x e h = sym (item_at-first_from k xs s ∙ ap (if_at k) (sym e) ∙ ap (λ b. cond b (Some x) None) h)

    pub found_nowhere : None ≡ first_from key cmp k xs → None ≡ item_at key cmp k xs
    found_nowhere e = sym (item_at-first_from k xs s ∙ ap (if_at k) (sym e))
