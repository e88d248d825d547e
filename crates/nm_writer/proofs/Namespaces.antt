-- The namespaces that are declared: where one stands, and what a list of them makes.
use Rattle.std.proofs.Common.{◌≡◌, ◌++◌, append_assoc, append-nil, drop, ℕ, ◌+◌, ◌<◌, ◌≤◌, length, get_or, fold, arith, List, [], ◌∷◌, Bool, true, false, not, ◌||◌, cond, Some, None, Ok, Err, Result, Ordering, position, filter, refl, sym, ◌∙◌, ap, lt-ltb, le-ltb, ⊎_elim, if◌then◌else◌}
use Rattle.std.specs.declared.cmp.Ordering.TheVariants.{Less, Equal, Greater}
use Rattle.std.specs.Ordering.{is_eq, is_lt, ordering_reverse, eq_by_cmp}
use Rattle.std.specs.Cmp.{IsTotalOrder}
use Rattle.std.specs.Cmp.Lexicographic.{texts_ties}
use Rattle.std.specs.List.{AllWithin, enumerate_from, flat_map, position_or_len}
use Rattle.std.specs.List.Sorted.{IsStrictlySortedBy, IsSorted, IsSearchInRange, IsBinarySearchResult}
use Rattle.std.proofs.lemmas.Bool.{cases_lt}
use Rattle.std.proofs.lemmas.Cmp.{alike_right, nat_list_cmp_total}
use Rattle.std.proofs.lemmas.List.{drop_all, drop_more}
use Rattle.std.proofs.lemmas.List.FromFn.{length-map-range_with_len, get_or-map-range_with_len}
use Rattle.std.proofs.lemmas.List.Sorted.{searchable_from_sorted}
use Rattle.std.proofs.lemmas.List.Sums.{position_or_len_is}
use Rattle.std.proofs.lemmas.Map.Keys.{Less-from_sorted}
use Rattle.std.proofs.lemmas.Map.Lookups.{exact_bytes}
use Rattle.nm_terms.specs.Bytes.{same_text}
use Rattle.nm_ident.specs.Order.{text_cmp}
use Rattle.nm_writer.specs.Canonical.{declaration}
use Rattle.nm_writer.specs.Namespaces.{insert_text, rising_texts, is_rdf, with_namespace, cim_place, prefix_at, prefix_of, prefixes_of, IsPlaceOf}
use Rattle.nm_ident.proofs.Rising.{has_by, has-insert_key, rising-insert_key, turned, same_members}
use Rattle.nm_writer.proofs.Places.{rising-nil, insert-is, insert-there, turned_back}

pub text_total : IsTotalOrder text_cmp
text_total = nat_list_cmp_total

-- ---- what a search finds

module _ {K : Type 0} {R : K → K → Ordering} (o : IsTotalOrder R) where
  sorted_from_rising : (ks : List K) → IsStrictlySortedBy R ks → IsSorted R ks
  sorted_from_rising ks s k d low high =
      ap is_lt (turned_back o (get_or ks (k + 1) d) (get_or ks k d) (Less-from_sorted R ks k (k + 1) d s (omega arith) (omega arith)))

position-at : {X : Type 0} (p : X → Bool) (xs : List X) (i : ℕ) → position_or_len p xs ≡ i → i < length xs → position p xs ≡ Some i
position-at p xs i e l = rw (e, lt-ltb i (length xs) l) refl

position-nowhere : {X : Type 0} (p : X → Bool) (xs : List X) → position_or_len p xs ≡ length xs → position p xs ≡ None
position-nowhere p xs e = rw (e, le-ltb (length xs) (length xs) (omega arith)) refl

not_same : (x y : List ℕ) (r : Ordering) → text_cmp x y ≡ r → is_eq r ≡ false → same_text x y ≡ false
not_same x y r e apart = texts_ties x y ∙ ap is_eq e ∙ apart

module _ (namespaces : List (List ℕ)) (ns : List ℕ) (s : IsStrictlySortedBy text_cmp namespaces) where
  below_at : (i : ℕ) (d : List ℕ) → text_cmp (get_or namespaces i d) ns ≡ Equal → i < length namespaces → (k : ℕ) → k < i → same_text ns (get_or namespaces k d) ≡ false
  below_at i d tie within k before =
      let x = get_or namespaces k d in
      let y = get_or namespaces i d in
      let less : text_cmp x y ≡ Less = Less-from_sorted text_cmp namespaces k i d s before within in
      let below : text_cmp x ns ≡ Less = sym (alike_right text_total y ns x tie) ∙ less in
      not_same ns x Greater (turned_back text_total ns x below) refl

  pub place_is : (r : Result ℕ ℕ) → IsSearchInRange r (length namespaces) → IsBinarySearchResult (λ y. text_cmp y ns) namespaces r → IsPlaceOf namespaces ns r
  place_is (Ok i) within found =
      let tie = found [] in (
        within,
        position-at (same_text ns) namespaces i
            (position_or_len_is (same_text ns) namespaces i [] (omega arith) (below_at i [] tie within)
            (λ l. texts_ties ns (get_or namespaces i []) ∙ ap is_eq (text_total.antisymm ns (get_or namespaces i []) ∙ ap ordering_reverse tie))) within,
        insert-there text_total namespaces ns i [] within tie s,
      )
  place_is (Err i) within found =
      let split = found (searchable_from_sorted text_total (λ y. y) namespaces ns (sorted_from_rising text_total namespaces s)) in (
        within,
        position-nowhere (same_text ns) namespaces
            (position_or_len_is (same_text ns) namespaces (length namespaces) [] (omega arith) (λ k l. apart k l split) (λ l. absurd (omega arith))),
        insert-is text_total namespaces ns i within split.0 split.1,
      )
    where
      apart : (k : ℕ) → k < length namespaces → AllWithin (λ y. text_cmp y ns ≡ Less) namespaces 0 i × AllWithin (λ y. text_cmp y ns ≡ Greater) namespaces i (length namespaces) → same_text ns (get_or namespaces k []) ≡ false
      apart k l split = ⊎_elim
          (λ before. not_same ns (get_or namespaces k []) Greater (turned_back text_total ns (get_or namespaces k []) (split.0 k [] (omega arith) before)) refl)
          (λ after. not_same ns (get_or namespaces k []) Less (turned text_total (get_or namespaces k []) ns (split.1 k [] after l)) refl)
          (cases_lt k i)

-- ---- what a list of namespaces makes

abbrev pub has : List (List ℕ) → List ℕ → Bool
has texts text = has_by text_total texts text

abbrev declared : List (List ℕ) → List (List ℕ)
declared texts = filter (λ ns. not (is_rdf ns)) texts

rising-with_namespace : (namespaces : List (List ℕ)) (ns : List ℕ) → IsStrictlySortedBy text_cmp namespaces → IsStrictlySortedBy text_cmp (with_namespace namespaces ns)
rising-with_namespace namespaces ns s = by (is_rdf ns)
  where
    by : (b : Bool) → IsStrictlySortedBy text_cmp (if b then namespaces else insert_text ns namespaces)
    by true = s
    by false = rising-insert_key text_total namespaces ns s

rising-fold : (xs namespaces : List (List ℕ)) → IsStrictlySortedBy text_cmp namespaces → IsStrictlySortedBy text_cmp (fold with_namespace namespaces xs)
rising-fold [] namespaces s = s
rising-fold (ns ∷ xs) namespaces s = rising-fold xs (with_namespace namespaces ns) (rising-with_namespace namespaces ns s)

or_false : (b : Bool) → (b || false) ≡ b
or_false true = refl
or_false false = refl

or_move : (a b c : Bool) → ((a || b) || c) ≡ (b || (a || c))
or_move true true c = refl
or_move true false c = refl
or_move false b c = refl

has-fold : (xs namespaces : List (List ℕ)) (q : List ℕ) → has (fold with_namespace namespaces xs) q ≡ (has namespaces q || has (declared xs) q)
has-fold [] namespaces q = sym (or_false (has namespaces q))
has-fold (ns ∷ xs) namespaces q = has-fold xs (with_namespace namespaces ns) q ∙ by (is_rdf ns)
  where
    by : (b : Bool) → (has (if b then namespaces else insert_text ns namespaces) q || has (declared xs) q) ≡ (has namespaces q || has (cond (not b) (ns ∷ declared xs) (declared xs)) q)
    by true = refl
    by false =
        ap (λ b. b || has (declared xs) q) (has-insert_key text_total namespaces ns q)
        ∙ or_move (eq_by_cmp text_cmp q ns) (has namespaces q) (has (declared xs) q)

rising-rising_texts : (xs : List (List ℕ)) → IsStrictlySortedBy text_cmp (rising_texts xs)
rising-rising_texts [] = rising-nil text_total
rising-rising_texts (x ∷ xs) = rising-insert_key text_total (rising_texts xs) x (rising-rising_texts xs)

pub has-rising_texts : (xs : List (List ℕ)) (q : List ℕ) → has (rising_texts xs) q ≡ has xs q
has-rising_texts [] q = refl
has-rising_texts (x ∷ xs) q = has-insert_key text_total (rising_texts xs) x q ∙ ap (λ b. eq_by_cmp text_cmp q x || b) (has-rising_texts xs q)

-- namespaces that are added one by one are the declared ones in order
pub gathered : (xs : List (List ℕ)) → fold with_namespace [] xs ≡ rising_texts (declared xs)
gathered xs =
    same_members text_total exact_bytes (fold with_namespace [] xs) (rising_texts (declared xs)) (rising-fold xs [] (rising-nil text_total)) (rising-rising_texts (declared xs))
    (λ q. has-fold xs [] q ∙ sym (has-rising_texts (declared xs) q))

-- ---- prefixes

pub length-prefixes_of : (namespaces : List (List ℕ)) → length (prefixes_of namespaces) ≡ length namespaces
length-prefixes_of namespaces = length-map-range_with_len (prefix_at (cim_place namespaces)) 0 (length namespaces)

-- the prefix at the place of a namespace is its own
pub prefix_of-is : (namespaces : List (List ℕ)) (ns prefix : List ℕ) (place : ℕ) → is_rdf ns ≡ false → place < length namespaces → position (same_text ns) namespaces ≡ Some place
    → prefix ≡ get_or (prefixes_of namespaces) place prefix → prefix ≡ prefix_of namespaces ns
prefix_of-is namespaces ns prefix place other within found read =
    read ∙ get_or-map-range_with_len (prefix_at (cim_place namespaces)) 0 (length namespaces) place place prefix within (omega arith) ∙ sym (rw (other, found) refl)

-- ---- declarations

abbrev pub entry_of : List (List ℕ) → ℕ × List ℕ → List ℕ
entry_of namespaces entry = declaration (prefix_at (cim_place namespaces) entry.0) entry.1

-- the declarations from a place on
abbrev pub declarations_from : List (List ℕ) → ℕ → List ℕ
declarations_from namespaces place = flat_map (entry_of namespaces) (enumerate_from place (drop place namespaces))

declarations_from-more : (namespaces : List (List ℕ)) (place : ℕ) (ns prefix : List ℕ) → place < length namespaces → ns ≡ get_or namespaces place ns
    → prefix ≡ get_or (prefixes_of namespaces) place prefix → declarations_from namespaces place ≡ declaration prefix ns ++ declarations_from namespaces (place + 1)
declarations_from-more namespaces place ns prefix within here named =
    let first : drop place namespaces ≡ ns ∷ drop (place + 1) namespaces = drop_more namespaces place ns within ∙ ap (λ (x : List ℕ). x ∷ drop (place + 1) namespaces) (sym here) in
    let is : prefix ≡ prefix_at (cim_place namespaces) place =
    named ∙ get_or-map-range_with_len (prefix_at (cim_place namespaces)) 0 (length namespaces) place place prefix within (omega arith) in
    ap (λ (xs : List (List ℕ)). flat_map (entry_of namespaces) (enumerate_from place xs)) first
    ∙ ap (λ (x : List ℕ). declaration x ns ++ declarations_from namespaces (place + 1)) (sym is)

-- one declaration more
pub declarations_step : (namespaces : List (List ℕ)) (place next : ℕ) (ns prefix out after all : List ℕ) → next ≡ place + 1 → place < length namespaces → ns ≡ get_or namespaces place ns
    → prefix ≡ get_or (prefixes_of namespaces) place prefix → after ≡ out ++ declaration prefix ns
    → out ++ declarations_from namespaces place ≡ all → after ++ declarations_from namespaces next ≡ all
declarations_step namespaces place next ns prefix out after all one within here named appended so_far =
    ap (λ (n : ℕ). after ++ declarations_from namespaces n) one
    ∙ ap (λ (xs : List ℕ). xs ++ declarations_from namespaces (place + 1)) appended
    ∙ append_assoc out (declaration prefix ns) (declarations_from namespaces (place + 1))
    ∙ ap (λ (xs : List ℕ). out ++ xs) (sym (declarations_from-more namespaces place ns prefix within here named))
    ∙ so_far

-- no declaration more
pub declarations_end : (namespaces : List (List ℕ)) (place : ℕ) (out all : List ℕ) → length namespaces ≤ place → out ++ declarations_from namespaces place ≡ all → out ≡ all
declarations_end namespaces place out all past so_far =
    sym (append-nil out)
    ∙ ap (λ (xs : List (List ℕ)). out ++ flat_map (entry_of namespaces) (enumerate_from place xs)) (sym (drop_all place namespaces past))
    ∙ so_far
