-- Entries in the order of their keys: where one is put, and what comes of those that are left.
use Rattle.std.proofs.Common.{◌≡◌, ◌∙◌, ℕ, ◌+◌, ◌≤◌, List, [], ◌∷◌, Bool, true, false, ◌||◌, not, cond, ltb, length, Option, None, Some, Ordering, refl, sym, ap, arith}
use Rattle.std.proofs.lemmas.List.Sums.{prefix_len-le-length}
use Rattle.std.specs.BTreeSet.{insert_key}
use Rattle.std.specs.Cmp.{IsTotalOrder}
use Rattle.std.specs.List.{AllByRecursion, IsDistinct, insert, list_any, position_or_len, prefix_len}
use Rattle.std.specs.Option.{unwrap_or}
use Rattle.std.specs.Ordering.{eq_by_cmp, is_eq, is_ge, is_lt, is_some_and, match_ordering, ordering_reverse, partial_ge}
use Rattle.std.specs.declared.cmp.Ordering.TheVariants.{Less, Equal, Greater}
use borrow.Author.Tests.{ltb-false}
use Rattle.nm_day.proofs.Orders.{key_cmp-total}
use Rattle.nm_day.specs.Key.{key_cmp}
use Rattle.nm_day.specs.contracts.key.KeyOrd.TheImpl.Laws as key_laws
use Rattle.nm_day.specs.contracts.key.KeyPartialEq.TheImpl as key_eq
use Rattle.nm_day.specs.contracts.key.KeyPartialOrd.TheImpl as key_partial_ord
use Rattle.nm_day.specs.declared.key.Key.{Key}
use Rattle.nm_ident.proofs.Rising.{has-insert_key, one_plus, rising-insert_key}
use Rattle.nm_timeline.specs.Timeline.{CanAdd, IsInOrder, entry_cmp, has_key, is_taken, with_entries, without_keys}
use Rattle.nm_timeline.specs.declared.mark.Mark.{Mark}
use Rattle.std.proofs.lemmas.Cmp.{on_total}
use Rattle.std.proofs.lemmas.List.Kept.{IsStrictlySortedBy-filter}

pub entry_cmp-total : IsTotalOrder entry_cmp
entry_cmp-total = on_total (λ (e : Key × Mark). e.0) key_cmp-total

-- whether two items are level does not depend on which is asked first
pub flips : {K : Type 0} {R : K → K → Ordering} → IsTotalOrder R → (x y : K) → eq_by_cmp R x y ≡ eq_by_cmp R y x
flips {K} {R} o x y = ap is_eq (o.antisymm x y) ∙ turned (R y x)
  where
    turned : (r : Ordering) → is_eq (ordering_reverse r) ≡ is_eq r
    turned Less = refl
    turned Equal = refl
    turned Greater = refl

-- ---- the tests of the type's `==` and `>=`

pub same_key : (x y : Key) → key_eq.ghosts.eq x y ≡ eq_by_cmp key_cmp x y
same_key x y = key_laws.matches_eq-law x y

pub key_ge : (x y : Key) → partial_ge key_partial_ord.ghosts.partial_cmp x y ≡ is_ge (key_cmp x y)
key_ge x y = ap (is_some_and is_ge) (key_laws.matches_partial_cmp-law x y)

pub not_ge : (r : Ordering) → not (is_ge r) ≡ is_lt r
not_ge Less = refl
not_ge Equal = refl
not_ge Greater = refl

-- where a search ends, or else the length
pub found_or_length : {X : Type 0} (p : X → Bool) (xs : List X) (r : Option ℕ)
    → r ≡ cond (ltb (position_or_len p xs) (length xs)) (Some (position_or_len p xs)) None → unwrap_or r (length xs) ≡ position_or_len p xs
found_or_length {X} p xs r e = ap (λ o. unwrap_or o (length xs)) e ∙ by (ltb (position_or_len p xs) (length xs)) refl
  where
    by : (b : Bool) → ltb (position_or_len p xs) (length xs) ≡ b → unwrap_or (cond b (Some (position_or_len p xs)) None) (length xs) ≡ position_or_len p xs
    by true h = refl
    by false h =
        let least : length xs ≤ position_or_len p xs = ltb-false (position_or_len p xs) (length xs) h in
        let most : position_or_len p xs ≤ length xs = prefix_len-le-length (λ s. not (p s)) xs in
        omega arith

-- ---- where an item is put

module _ {K : Type 0} {R : K → K → Ordering} (o : IsTotalOrder R) where
  neither : (a b : Bool) → (a || b) ≡ false → (a ≡ false) × (b ≡ false)
  neither true b e = absurd cc
  neither false b e = (refl, e)

  -- an item that is level with none is put behind those below it
  pub put_at_its_place : (xs : List K) (k : K) → list_any (eq_by_cmp R k) xs ≡ false
      → insert_key R xs k ≡ insert xs (prefix_len (λ x. is_lt (R x k)) xs) k
  put_at_its_place [] k free = refl
  put_at_its_place (x ∷ xs) k free =
      let parts = neither (eq_by_cmp R k x) (list_any (eq_by_cmp R k) xs) free in
      by (put_at_its_place xs k parts.1) (R k x) parts.0 (ap is_lt (o.antisymm x k))
    where
      by : insert_key R xs k ≡ insert xs (prefix_len (λ y. is_lt (R y k)) xs) k → (r : Ordering) → is_eq r ≡ false → is_lt (R x k) ≡ is_lt (ordering_reverse r)
          → match_ordering r (k ∷ x ∷ xs) (x ∷ xs) (x ∷ insert_key R xs k) ≡ insert (x ∷ xs) (cond (is_lt (R x k)) (1 + prefix_len (λ y. is_lt (R y k)) xs) 0) k
      by h Less e f = λ i. insert (x ∷ xs) (cond (sym f i) (1 + prefix_len (λ y. is_lt (R y k)) xs) 0) k
      by h Equal e f = absurd cc
      by h Greater e f =
          ap (λ l. x ∷ l) h
          ∙ (let shape : insert (x ∷ xs) (1 + prefix_len (λ y. is_lt (R y k)) xs) k ≡ x ∷ insert xs (prefix_len (λ y. is_lt (R y k)) xs) k = rw one_plus refl in sym shape)
          ∙ (λ i. insert (x ∷ xs) (cond (sym f i) (1 + prefix_len (λ y. is_lt (R y k)) xs) 0) k)

-- ---- entries

-- an edit keeps the order
pub order_without : (keys : List Key) (entries : List (Key × Mark)) → IsInOrder entries → IsInOrder (without_keys keys entries)
order_without keys entries order = IsStrictlySortedBy-filter entry_cmp (λ e. not (has_key keys e.0)) entries order

pub order_with : (entries added : List (Key × Mark)) → IsInOrder entries → IsInOrder (with_entries entries added)
order_with entries [] order = order
order_with entries (e ∷ es) order = order_with (insert_key entry_cmp entries e) es (rising-insert_key entry_cmp-total entries e order)

-- an entry at a key of its own is put behind those before it
pub put_entry : (entries : List (Key × Mark)) (e : Key × Mark) (place : ℕ) → is_taken entries e ≡ false
    → place ≡ prefix_len (λ other. is_lt (key_cmp other.0 e.0)) entries → insert entries place e ≡ insert_key entry_cmp entries e
put_entry entries e place free at = ap (λ n. insert entries n e) at ∙ sym (put_at_its_place entry_cmp-total entries e free)

-- once one was added, the others still can be
still_free : (entries : List (Key × Mark)) (e : Key × Mark) (es : List (Key × Mark)) → AllByRecursion (λ y. eq_by_cmp entry_cmp e y ≡ false) es
    → AllByRecursion (λ y. is_taken entries y ≡ false) es → AllByRecursion (λ y. is_taken (insert_key entry_cmp entries e) y ≡ false) es
still_free entries e [] a b = tt
still_free entries e (y ∷ ys) a b =
    (has-insert_key entry_cmp-total entries e y ∙ (λ i. (flips entry_cmp-total y e ∙ a.0) i || b.0 i), still_free entries e ys a.1 b.1)

pub first_free : (entries : List (Key × Mark)) (e : Key × Mark) (es : List (Key × Mark)) → CanAdd entries (e ∷ es) → is_taken entries e ≡ false
first_free entries e es can = can.free.0

pub others_can : (entries : List (Key × Mark)) (e : Key × Mark) (es : List (Key × Mark)) → CanAdd entries (e ∷ es) → CanAdd (insert_key entry_cmp entries e) es
unfolding IsDistinct
others_can entries e es can = record { apart = can.apart.1; free = still_free entries e es can.apart.0 can.free.1 }

-- without the entry at its key, one can be added
pub freed : (key : Key) (mark : Mark) (entries : List (Key × Mark)) → CanAdd (without_keys (key ∷ []) entries) ((key, mark) ∷ [])
unfolding IsDistinct
freed key mark entries = record { apart = (tt, tt); free = (gone entries, tt) }
  where
    gone : (es : List (Key × Mark)) → is_taken (without_keys (key ∷ []) es) (key, mark) ≡ false
    gone [] = refl
    gone (e ∷ es) = by (gone es) (eq_by_cmp key_cmp key e.0) refl
      where
        by : is_taken (without_keys (key ∷ []) es) (key, mark) ≡ false → (b : Bool) → eq_by_cmp key_cmp key e.0 ≡ b
            → is_taken (cond (not (b || false)) (e ∷ without_keys (key ∷ []) es) (without_keys (key ∷ []) es)) (key, mark) ≡ false
        by h true same = h
        by h false same = (λ i. same i || h i)
