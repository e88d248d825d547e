-- A list in which nothing stands twice keeps its length where it is sorted and neighbours that are the
-- same are joined.
use Rattle.std.proofs.Common.{◌≡◌, ℕ, List, [], ◌∷◌, Bool, true, false, ◌&&◌, ◌||◌, not, cond, ◌≤◌, ◌==◌, length, refl, sym, ap, subst, ◌∙◌, arith, suc}
use Rattle.std.proofs.lemmas.Bool.Decides.{nat_tests}
use Rattle.std.proofs.lemmas.List.Filters.{dedup_is}
use Rattle.std.proofs.lemmas.List.Kept.{IsStrictlySortedBy-dedup}
use Rattle.std.proofs.lemmas.List.Sorted.{IsPermutation-sym, length_permutation}
use Rattle.std.proofs.lemmas.Map.Keys.{IsDistinct-cons, IsDistinct-from_sorted, IsDistinct-head, IsDistinct-tail, IsDistinct-IsPermutation}
use Rattle.std.specs.Cmp.{IsTotalOrder}
use Rattle.std.specs.List.{AllByRecursion, IsDistinct, dedup, dedup_from, list_any}
use Rattle.std.specs.List.Retain.{DiffersFromLast, IsFiltered}
use Rattle.std.specs.List.Sorted.{IsPermutation, IsSorted}
use Rattle.std.specs.Ordering.{eq_by_cmp}
use Rattle.std.specs.declared.cmp.Ordering.{Ordering}
use Rattle.nm_reader.specs.Namespaces.{are_distinct_by}

-- ---- two tests, each of which says what the other does

both_so : (a b : Bool) → (a ≡ true → b ≡ true) → (b ≡ true → a ≡ true) → a ≡ b
both_so true b there back = sym (there refl)
both_so false true there back = back refl
both_so false false there back = refl

and_left : (a b : Bool) → (a && b) ≡ true → a ≡ true
and_left true b is = refl
and_left false b is = is

and_right : (a b : Bool) → (a && b) ≡ true → b ≡ true
and_right true b is = is
and_right false b is = absurd (cc)

-- ---- `are_distinct_by` and std's word

none : {X : Type 0} (test : X → Bool) (xs : List X) → list_any test xs ≡ false → AllByRecursion (λ y. test y ≡ false) xs
none test [] is = tt
none test (x ∷ xs) is = (first_no (test x) (list_any test xs) is, none test xs (other_no (test x) (list_any test xs) is))
  where
    first_no : (a b : Bool) → (a || b) ≡ false → a ≡ false
    first_no false b is = refl
    first_no true b is = is

    other_no : (a b : Bool) → (a || b) ≡ false → b ≡ false
    other_no false b is = is
    other_no true b is = absurd (cc)

not_any : {X : Type 0} (test : X → Bool) (xs : List X) → AllByRecursion (λ y. test y ≡ false) xs → list_any test xs ≡ false
not_any test [] all = refl
not_any test (x ∷ xs) all = rw (all.0) (not_any test xs all.1)

not_so : (a : Bool) → not a ≡ true → a ≡ false
not_so true is = absurd (cc)
not_so false is = refl

nothing_twice : {X : Type 0} (same : X → X → Bool) → IsDistinct same []
unfolding IsDistinct
nothing_twice same = tt

distinct_if : {X : Type 0} (same : X → X → Bool) (xs : List X) → are_distinct_by same xs ≡ true → IsDistinct same xs
distinct_if same [] is = nothing_twice same
distinct_if same (x ∷ xs) is =
    IsDistinct-cons same x xs (none (same x) xs (not_so _ (and_left _ _ is))) (distinct_if same xs (and_right (not (list_any (same x) xs)) _ is))

if_distinct : {X : Type 0} (same : X → X → Bool) (xs : List X) → IsDistinct same xs → are_distinct_by same xs ≡ true
if_distinct same [] distinct = refl
if_distinct same (x ∷ xs) distinct =
    rw (not_any (same x) xs (IsDistinct-head same x xs distinct)) (if_distinct same xs (IsDistinct-tail same x xs distinct))

-- ---- what `dedup` keeps

from_length : {X : Type 0} (same : X → X → Bool) (k : X) (xs : List X) → length (dedup_from same k xs) ≤ suc (length xs)
from_length same k [] = omega arith
from_length same k (x ∷ xs) = step (same x k) (from_length same k xs) (from_length same x xs)
  where
    step : (b : Bool) → length (dedup_from same k xs) ≤ suc (length xs) → length (dedup_from same x xs) ≤ suc (length xs)
        → length (cond b (dedup_from same k xs) (k ∷ dedup_from same x xs)) ≤ suc (suc (length xs))
    step true here behind = omega arith
    step false here behind = omega arith

all_step : {X : Type 0} (k x : X) (xs : List X) (joined : Bool) (here behind : List X) → length here ≤ suc (length xs) → (length behind ≡ suc (length xs) → behind ≡ x ∷ xs)
    → length (cond joined here (k ∷ behind)) ≡ suc (suc (length xs)) → cond joined here (k ∷ behind) ≡ k ∷ x ∷ xs
all_step k x xs true here behind short all is = absurd (omega arith)
all_step k x xs false here behind short all is = ap (λ rest. k ∷ rest) (all (omega arith))

from_all : {X : Type 0} (same : X → X → Bool) (k : X) (xs : List X) → length (dedup_from same k xs) ≡ suc (length xs) → dedup_from same k xs ≡ k ∷ xs
from_all same k [] is = refl
from_all same k (x ∷ xs) is = all_step k x xs (same x k) (dedup_from same k xs) (dedup_from same x xs) (from_length same k xs) (from_all same x xs) is

dedup_all : {X : Type 0} (same : X → X → Bool) (xs : List X) → length (dedup same xs) ≡ length xs → dedup same xs ≡ xs
dedup_all same [] is = refl
dedup_all same (x ∷ xs) is = from_all same x xs is

from_distinct : {X : Type 0} (same : X → X → Bool) (flips : (x y : X) → same x y ≡ same y x) (k : X) (xs : List X) → IsDistinct same (k ∷ xs) → dedup_from same k xs ≡ k ∷ xs
from_distinct same flips k [] distinct = refl
from_distinct same flips k (x ∷ xs) distinct =
    rw (flips x k ∙ (IsDistinct-head same k (x ∷ xs) distinct).0)
    (ap (λ rest. k ∷ rest) (from_distinct same flips x xs (IsDistinct-tail same k (x ∷ xs) distinct)))

dedup_distinct : {X : Type 0} (same : X → X → Bool) (flips : (x y : X) → same x y ≡ same y x) (xs : List X) → IsDistinct same xs → dedup same xs ≡ xs
dedup_distinct same flips [] distinct = refl
dedup_distinct same flips (x ∷ xs) distinct = from_distinct same flips x xs distinct

-- ---- sorted, and then joined

equal_lengths : (a b : ℕ) → (a == b) ≡ true → a ≡ b
equal_lengths a b is = grind (arith, nat_tests)

lengths_equal : (a b : ℕ) → a ≡ b → (a == b) ≡ true
lengths_equal a b is = grind (arith, nat_tests)

pub distinct_by_sorting : {X : Type 0} (same : X → X → Bool) (cmp : X → X → Ordering) → IsTotalOrder cmp → ((x y : X) → same x y ≡ eq_by_cmp cmp x y) → ((x y : X) → same x y ≡ same y x)
    → (xs ys zs : List X) → IsPermutation xs ys → IsSorted cmp ys → IsFiltered (DiffersFromLast same) [] ys zs → (length zs == length xs) ≡ are_distinct_by same xs
distinct_by_sorting same cmp total ties flips xs ys zs moved sorted kept =
    let lengths : length ys ≡ length xs = length_permutation xs ys moved in
    let joined : zs ≡ dedup same ys = dedup_is same ys zs kept in
    both_so (length zs == length xs) (are_distinct_by same xs)
    (λ equal.
    let all : dedup same ys ≡ ys = dedup_all same ys (ap length (sym joined) ∙ equal_lengths _ _ equal ∙ sym lengths) in
    let rising = subst (λ list. IsDistinct (eq_by_cmp cmp) list) all (IsDistinct-from_sorted cmp (dedup same ys) (IsStrictlySortedBy-dedup total ties ys sorted)) in
    let distinct : IsDistinct same ys = subst (λ (test : _). IsDistinct test ys) (λ i x y. sym (ties x y) i) rising in
    if_distinct same xs (IsDistinct-IsPermutation same flips ys xs (IsPermutation-sym xs ys moved) distinct))
    (λ distinct.
    lengths_equal _ _ (ap length (joined ∙ dedup_distinct same flips ys (IsDistinct-IsPermutation same flips xs ys moved (distinct_if same xs distinct))) ∙ lengths))
