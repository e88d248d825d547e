-- What the walks along two rising lists of statements rest on.
use Rattle.std.proofs.Common.{◌≡◌, ◌∙◌, ◌≤◌, ◌<◌, ◌+◌, ℕ, get_or, if◌then◌else◌, append_assoc, List, [], ◌∷◌, ◌++◌, Bool, true, false, cond, not, Option, Some, None, Ordering, take, drop, length, ltb, refl, sym, ap, subst, arith}
use Rattle.std.specs.List.{AllByRecursion, position_or_len}
use Rattle.std.specs.Option.{unwrap_or}
use Rattle.std.specs.Ordering.{is_eq, is_ge, is_some_and, partial_ge}
use borrow.Author.Tests.{ltb-false}
use Rattle.std.specs.declared.cmp.Ordering.TheVariants.{Less, Equal, Greater}
use Rattle.std.proofs.lemmas.List.{drop_all, drop_more, take-append-drop}
use Rattle.std.proofs.lemmas.List.Sums.{prefix_len-le-length}
use Rattle.nm_statement.specs.Order.{statement_cmp}
use Rattle.nm_statement.specs.Set.{IsRising, minus_of, union_of}
use Rattle.nm_statement.specs.contracts.statement.StatementOrd.TheImpl.Laws as statement_laws
use Rattle.nm_statement.specs.contracts.statement.StatementPartialEq.TheImpl as statement_eq
use Rattle.nm_statement.specs.contracts.statement.StatementPartialOrd.TheImpl as statement_partial_ord
use Rattle.nm_statement.specs.declared.statement.Statement.{Statement}
use Rattle.nm_statement.proofs.Orders.{statement_cmp-total, statement_cmp-equal, derived-eq, derived-statement_cmp}
use Rattle.nm_statement.proofs.Sets.{set_of-is, set_of-rising}
use Rattle.nm_ident.proofs.Orders.{equal_from}
use Rattle.nm_ident.proofs.Rising.{minus_step, union_step, counted_below, stops_at, above_first, above_all, rising_back}

-- where a search ends, or else the length
pub found_or_length : (p : Statement → Bool) (xs : List Statement) (r : Option ℕ)
    → r ≡ cond (ltb (position_or_len p xs) (length xs)) (Some (position_or_len p xs)) None → unwrap_or r (length xs) ≡ position_or_len p xs
found_or_length p xs r e = ap (λ o. unwrap_or o (length xs)) e ∙ by (ltb (position_or_len p xs) (length xs)) refl
  where
    by : (b : Bool) → ltb (position_or_len p xs) (length xs) ≡ b → unwrap_or (cond b (Some (position_or_len p xs)) None) (length xs) ≡ position_or_len p xs
    by true h = refl
    by false h =
        let least : length xs ≤ position_or_len p xs = ltb-false (position_or_len p xs) (length xs) h in
        let most : position_or_len p xs ≤ length xs = prefix_len-le-length (λ s. not (p s)) xs in
        omega arith

module _ (xs : List Statement) (x : Statement) (n : ℕ) (counted : n ≡ position_or_len (λ s. is_ge (statement_cmp s x)) xs) where
  pub within : n ≤ length xs
  within = omega (arith, counted, prefix_len-le-length (λ s. not (is_ge (statement_cmp s x))) xs)

  pub taken_below : (below : List Statement) → below ≡ take n xs → AllByRecursion (λ s. statement_cmp s x ≡ Less) below
  taken_below below e =
      let same : below ≡ take (position_or_len (λ s. is_ge (statement_cmp s x)) xs) xs = e ∙ ap (λ k. take k xs) counted in
      subst (AllByRecursion (λ s. statement_cmp s x ≡ Less)) (sym same) (counted_below statement_cmp-total x xs)

  module _ (rising : IsRising xs) (rest : List Statement) (dropped : rest ≡ drop n xs) where
    rest_rises : IsRising rest
    rest_rises = subst IsRising (sym dropped) (rising_back statement_cmp-total (take n xs) (drop n xs) (subst IsRising (sym (take-append-drop n xs)) rising))

    module _ (first : Statement) (others : List Statement) (begins : rest ≡ first ∷ others) where
      -- the first is x itself
      pub others_above : statement_eq.ghosts.eq first x ≡ true → (first ≡ x) × AllByRecursion (λ s. statement_cmp x s ≡ Less) others
      others_above same =
          let equal : first ≡ x = statement_cmp-equal first x (equal_from (statement_cmp first x) (sym (derived-eq first x) ∙ same)) in
          (equal, above_first statement_cmp-total x others (subst (λ s. IsRising (s ∷ others)) equal (subst IsRising begins rest_rises)))

      -- the first is above x, and so are all
      pub all_above : statement_eq.ghosts.eq first x ≡ false → AllByRecursion (λ s. statement_cmp x s ≡ Less) rest
      all_above differs =
          let at_least : is_ge (statement_cmp first x) ≡ true = stops_at statement_cmp-total x xs first others (ap (λ k. drop k xs) (sym counted) ∙ sym dropped ∙ begins) in
          let above : statement_cmp first x ≡ Greater = greater_from (statement_cmp first x) at_least (sym (derived-eq first x) ∙ differs) in
          subst (AllByRecursion (λ s. statement_cmp x s ≡ Less)) (sym begins) (above_all statement_cmp-total x first others above (subst IsRising begins rest_rises))
        where
          greater_from : (r : Ordering) → is_ge r ≡ true → is_eq r ≡ false → r ≡ Greater
          greater_from Less h k = cc
          greater_from Equal h k = cc
          greater_from Greater h k = refl

-- the test of the type's `>=`
pub ge_is : (x y : Statement) → partial_ge statement_partial_ord.ghosts.partial_cmp x y ≡ is_ge (statement_cmp x y)
ge_is x y = ap (is_some_and is_ge) (statement_laws.matches_partial_cmp-law x y ∙ ap Some (derived-statement_cmp x y))

-- of no statement anything holds
pub all_of_none : (P : Statement → Type 0) (xs : List Statement) → length xs ≡ 0 → AllByRecursion P xs
all_of_none P [] none = tt
all_of_none P (x ∷ xs) none = absurd (omega (arith, none))

-- a turn of either walk, at the statement x of the first list, where the second has `below`, x or not, and `above` left
module _ (left done rest : List Statement) (x : Statement) (i : ℕ) (within : i < length left) (at : x ≡ get_or left i x) (rising : IsRising left)
    (below above : List Statement) (found : Bool) (whole : rest ≡ below ++ (if found then x ∷ above else above))
    (under : AllByRecursion (λ s. statement_cmp s x ≡ Less) below) (over : AllByRecursion (λ s. statement_cmp x s ≡ Less) above) where
  next : drop i left ≡ x ∷ drop (i + 1) left
  next = drop_more left i x within ∙ ap (λ s. s ∷ drop (i + 1) left) (sym at)

  next_rises : IsRising (x ∷ drop (i + 1) left)
  next_rises = subst IsRising next (rising_back statement_cmp-total (take i left) (drop i left) (subst IsRising (sym (take-append-drop i left)) rising))

  pub above_rises : IsRising rest → IsRising above
  above_rises rises = by found (rising_back statement_cmp-total below (if found then x ∷ above else above) (subst IsRising whole rises))
    where
      by : (f : Bool) → IsRising (if f then x ∷ above else above) → IsRising above
      by true h = rising_back statement_cmp-total (x ∷ []) above h
      by false h = h

  pub union_turn : IsRising rest → (result : List Statement) → done ++ union_of (drop i left) rest ≡ result
      → ((done ++ below) ++ x ∷ []) ++ union_of (drop (i + 1) left) above ≡ result
  union_turn rises result so_far =
      let turn : union_of (x ∷ drop (i + 1) left) rest ≡ below ++ x ∷ union_of (drop (i + 1) left) above =
      ap (union_of (x ∷ drop (i + 1) left)) whole
      ∙ set_of-is ((x ∷ drop (i + 1) left) ++ (below ++ (if found then x ∷ above else above)))
      ∙ union_step statement_cmp-total x below above found under over statement_cmp-equal (drop (i + 1) left) next_rises (subst IsRising whole rises)
      ∙ ap (λ l. below ++ x ∷ l) (sym (set_of-is (drop (i + 1) left ++ above)))
      in
      append_assoc (done ++ below) (x ∷ []) (union_of (drop (i + 1) left) above)
      ∙ append_assoc done below (x ∷ union_of (drop (i + 1) left) above)
      ∙ ap (λ l. done ++ l) (sym turn ∙ ap (λ l. union_of l rest) (sym next))
      ∙ so_far

  pub minus_turn : (result : List Statement) → done ++ minus_of (drop i left) rest ≡ result
      → (if found then done else done ++ x ∷ []) ++ minus_of (drop (i + 1) left) above ≡ result
  minus_turn result so_far =
      let turn : minus_of (x ∷ drop (i + 1) left) rest ≡ (if found then [] else x ∷ []) ++ minus_of (drop (i + 1) left) above =
      ap (minus_of (x ∷ drop (i + 1) left)) whole
      ∙ minus_step statement_cmp-total x below above found under over (drop (i + 1) left) next_rises
      in
      by found
      ∙ ap (λ l. done ++ l) (sym turn ∙ ap (λ l. minus_of l rest) (sym next))
      ∙ so_far
    where
      by : (f : Bool) → (if f then done else done ++ x ∷ []) ++ minus_of (drop (i + 1) left) above ≡ done ++ ((if f then [] else x ∷ []) ++ minus_of (drop (i + 1) left) above)
      by true = refl
      by false = append_assoc done (x ∷ []) (minus_of (drop (i + 1) left) above)

-- the end of a union's walk
pub union_end : (left rest : List Statement) (i : ℕ) → length left ≤ i → IsRising rest → union_of (drop i left) rest ≡ rest
union_end left rest i past rises = ap (λ l. union_of l rest) (drop_all i left past) ∙ set_of-rising rest rises
