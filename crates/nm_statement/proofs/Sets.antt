-- Sets of statements: what they have, and when they are equal.
use Rattle.std.proofs.Common.{◌≡◌, ◌∙◌, ◌+◌, ℕ, arith, length, get_or, Result, Ok, Err, is_ok, ⊎_elim, Ordering, List, [], ◌∷◌, ◌++◌, Bool, true, false, not, ◌&&◌, ◌||◌, IsPermutation, refl, sym, ap, subst}
use Rattle.std.specs.BTreeSet.{insert_key}
use Rattle.std.specs.declared.cmp.Ordering.TheVariants.{Less, Greater}
use Rattle.std.specs.Ordering.{eq_by_cmp, is_eq, is_lt, ordering_index, ordering_reverse}
use Rattle.std.specs.List.{dedup}
use Rattle.std.specs.List.Retain.{DiffersFromLast, IsFiltered}
use Rattle.std.specs.List.Sorted.{IsBinarySearchResult, IsNonDecreasingBy, IsSearchInRange, IsSorted}
use Rattle.std.proofs.lemmas.Bool.{cases_lt}
use Rattle.std.proofs.lemmas.Cmp.{eq_by_cmp_equiv, tied_back}
use Rattle.std.proofs.lemmas.List.Filters.{dedup_is}
use Rattle.std.proofs.lemmas.List.Folds.{list_any-append, list_any_at, list_any_none}
use Rattle.std.proofs.lemmas.Map.Keys.{Less-from_sorted}
use Rattle.std.proofs.lemmas.List.Kept.{IsStrictlySortedBy-filter, IsStrictlySortedBy-dedup}
use Rattle.std.proofs.lemmas.List.Sorted.{list_any-IsPermutation, searchable_from_sorted}
use Rattle.std.proofs.lemmas.Map.Views.{any-filter_same, Contains-from_any, list_any-from_Contains, tells_apart}
use Rattle.nm_statement.specs.Laws.{HasIsContains, SetsHave, SetsRise, SameMembers, SetsOfMembers}
use Rattle.nm_statement.specs.Order.{statement_cmp}
use Rattle.nm_statement.specs.Set.{IsRising, has, is_same, set_of, minus_of, union_of}
use Rattle.nm_statement.specs.contracts.statement.StatementOrd.TheImpl as statement_ord
use Rattle.nm_statement.specs.contracts.statement.StatementPartialEq.TheImpl as statement_eq
use Rattle.nm_statement.specs.declared.statement.Statement.{Statement}
use Rattle.nm_statement.proofs.Orders.{statement_cmp-total, statement_cmp-equal, derived-statement_cmp, derived-eq}
use Rattle.nm_ident.proofs.Rising.{rising_of, has-rising_of, rising-rising_of, same_members, rising_of-is, rising_of-members, has-dedup}

-- the set of statements, as that of any items
pub set_of-is : (xs : List Statement) → set_of xs ≡ rising_of statement_cmp-total xs
set_of-is [] = refl
set_of-is (x ∷ xs) = ap (λ ys. insert_key statement_cmp ys x) (set_of-is xs)

pub has_is_contains : HasIsContains
has_is_contains xs x = (
  λ h. Contains-from_any (tells_apart statement_cmp-equal) x xs h,
  λ h. list_any-from_Contains (eq_by_cmp_equiv statement_cmp-total) x xs h,
)

pub has-set_of : (xs : List Statement) (x : Statement) → has (set_of xs) x ≡ has xs x
has-set_of xs x = ap (λ ys. has ys x) (set_of-is xs) ∙ has-rising_of statement_cmp-total xs x

pub has-union_of : (xs ys : List Statement) (x : Statement) → has (union_of xs ys) x ≡ (has xs x || has ys x)
has-union_of xs ys x = has-set_of (xs ++ ys) x ∙ list_any-append (is_same x) xs ys

and_swap : (a b : Bool) → (a && b) ≡ (b && a)
and_swap true true = refl
and_swap true false = refl
and_swap false true = refl
and_swap false false = refl

pub has-minus_of : (xs ys : List Statement) (x : Statement) → has (minus_of xs ys) x ≡ (has xs x && not (has ys x))
has-minus_of xs ys x =
    any-filter_same (is_same x) (λ y. not (has ys y)) (not (has ys x))
    (λ y same. ap (λ z. not (has ys z)) (sym (tells_apart statement_cmp-equal x y same))) xs
    ∙ and_swap (not (has ys x)) (has xs x)

pub sets_have : SetsHave
sets_have = record { set = has-set_of; union = has-union_of; minus = has-minus_of }

pub rising-set_of : (xs : List Statement) → IsRising (set_of xs)
rising-set_of xs = subst IsRising (sym (set_of-is xs)) (rising-rising_of statement_cmp-total xs)

pub rising-minus_of : (xs ys : List Statement) → IsRising xs → IsRising (minus_of xs ys)
rising-minus_of xs ys rising = IsStrictlySortedBy-filter statement_cmp (λ x. not (has ys x)) xs rising

pub sets_rise : SetsRise
sets_rise = record { set = rising-set_of; union = λ xs ys. rising-set_of (xs ++ ys); minus = rising-minus_of }

pub members_make_sets : SameMembers
members_make_sets = same_members statement_cmp-total statement_cmp-equal

pub set_of-alike : (xs ys : List Statement) → ((x : Statement) → has xs x ≡ has ys x) → set_of xs ≡ set_of ys
set_of-alike xs ys h = set_of-is xs ∙ rising_of-members statement_cmp-total statement_cmp-equal xs ys h ∙ sym (set_of-is ys)

pub set_of-members : (xs ys : List Statement) → IsRising xs → ((x : Statement) → has xs x ≡ has ys x) → set_of ys ≡ xs
set_of-members xs ys rising h = set_of-is ys ∙ rising_of-is statement_cmp-total statement_cmp-equal xs ys rising h

pub set_of-rising : (xs : List Statement) → IsRising xs → set_of xs ≡ xs
set_of-rising xs rising = set_of-members xs xs rising (λ x. refl)

has-permuted : (xs ys : List Statement) → IsPermutation xs ys → (x : Statement) → has xs x ≡ has ys x
has-permuted xs ys moved x = list_any-IsPermutation (is_same x) xs ys moved

pub sets_of_members : SetsOfMembers
sets_of_members = record {
  alike = set_of-alike;
  rising = set_of-rising;
  members = set_of-members;
  permuted = λ xs ys rising moved. set_of-members xs ys rising (has-permuted xs ys moved);
}

-- a sort and a `dedup` make the set
pub dedup-sorted : (xs ys : List Statement) → IsPermutation xs ys → IsSorted statement_cmp ys → dedup (eq_by_cmp statement_cmp) ys ≡ set_of xs
dedup-sorted xs ys moved sorted =
    sym (set_of-members (dedup (eq_by_cmp statement_cmp) ys) xs
    (IsStrictlySortedBy-dedup statement_cmp-total (λ x y. refl) ys sorted)
    (λ x. has-dedup statement_cmp-total statement_cmp-equal ys x ∙ sym (has-permuted xs ys moved x)))

-- the same of the order and the equality of the type
pub made_of : (xs ys zs : List Statement) → IsPermutation xs ys → IsSorted statement_ord.ghosts.cmp ys → IsFiltered (DiffersFromLast statement_eq.ghosts.eq) [] ys zs → zs ≡ set_of xs
made_of xs ys zs moved sorted kept =
    dedup_is statement_eq.ghosts.eq ys zs kept
    ∙ ap (λ (same : Statement → Statement → Bool). dedup same ys) (λ i x y. derived-eq x y i)
    ∙ dedup-sorted xs ys moved (subst (λ (cmp : Statement → Statement → Ordering). IsSorted cmp ys) (λ i x y. derived-statement_cmp x y i) sorted)

-- what a binary search finds
sorted-rising : (xs : List Statement) → IsRising xs → IsSorted statement_cmp xs
sorted-rising xs rising k d low high =
    ap is_lt (statement_cmp-total.antisymm (get_or xs (k + 1) d) (get_or xs k d)
    ∙ ap ordering_reverse (Less-from_sorted statement_cmp xs k (k + 1) d rising (omega arith) high))

search_order : (xs : List Statement) (x : Statement) → IsRising xs → IsNonDecreasingBy (λ y. ordering_index (statement_cmp y x)) xs
search_order xs x rising = searchable_from_sorted statement_cmp-total (λ y. y) xs x (sorted-rising xs rising)

not_same-below : (x y : Statement) → statement_cmp y x ≡ Less → is_same x y ≡ false
not_same-below x y e = ap is_eq (statement_cmp-total.antisymm x y ∙ ap ordering_reverse e)

not_same-above : (x y : Statement) → statement_cmp y x ≡ Greater → is_same x y ≡ false
not_same-above x y e = ap is_eq (statement_cmp-total.antisymm x y ∙ ap ordering_reverse e)

pub searched : (xs : List Statement) (x : Statement) (r : Result ℕ ℕ) → IsRising xs → IsSearchInRange r (length xs)
    → IsBinarySearchResult (λ y. statement_cmp y x) xs r → is_ok r ≡ has xs x
searched xs x (Ok i) rising within found =
    sym (list_any_at (is_same x) xs i x within (ap is_eq (tied_back statement_cmp-total (get_or xs i x) x (found x))))
searched xs x (Err i) rising within found =
    let around = found (search_order xs x rising) in
    sym (list_any_none (is_same x) xs (λ k d high. ⊎_elim
    (λ below. not_same-below x (get_or xs k d) (around.0 k d (omega arith) below))
    (λ above. not_same-above x (get_or xs k d) (around.1 k d above high))
    (cases_lt k i)))

pub searched_by_cmp : (xs : List Statement) (x : Statement) (r : Result ℕ ℕ) → IsRising xs → IsSearchInRange r (length xs)
    → IsBinarySearchResult (λ y. statement_ord.ghosts.cmp y x) xs r → is_ok r ≡ has xs x
searched_by_cmp xs x r rising within found =
    searched xs x r rising within (subst (λ (cmp : Statement → Statement → Ordering). IsBinarySearchResult (λ y. cmp y x) xs r) (λ i x y. derived-statement_cmp x y i) found)
