-- References to statements, sorted and each kept once, refer to the set of them.
use Rattle.std.proofs.Common.{◌≡◌, ◌∙◌, List, [], ◌∷◌, Bool, true, false, cond, IsPermutation, Ordering, refl, sym, ap, subst}
use Rattle.std.proofs.lemmas.Cmp.{on_total}
use Rattle.std.proofs.lemmas.List.Filters.{dedup_is}
use Rattle.std.proofs.lemmas.List.Kept.{IsStrictlySortedBy-dedup}
use Rattle.std.proofs.lemmas.List.Sorted.{IsPermutation-map, list_any-IsPermutation}
use Rattle.std.specs.Borrow.{Bor}
use Rattle.std.specs.Cmp.{IsTotalOrder}
use Rattle.std.specs.List.{dedup, dedup_from}
use Rattle.std.specs.List.Retain.{DiffersFromLast, IsFiltered}
use Rattle.std.specs.List.Sorted.{IsSorted, IsStrictlySortedBy}
use Rattle.std.specs.Ordering.{eq_by_cmp}
use Rattle.std.specs.declared.cmp.Ordering.TheVariants.{Less}
use Rattle.nm_check.proofs.Rising.{all_map}
use Rattle.nm_ident.proofs.Rising.{has-dedup}
use Rattle.nm_statement.proofs.Orders.{derived-eq, derived-statement_cmp, statement_cmp-equal, statement_cmp-total}
use Rattle.nm_statement.proofs.Sets.{set_of-members}
use Rattle.nm_statement.specs.Order.{statement_cmp}
use Rattle.nm_statement.specs.Set.{IsRising, has, is_same, set_of}
use Rattle.nm_statement.specs.contracts.statement.StatementOrd.TheImpl as statement_ord
use Rattle.nm_statement.specs.contracts.statement.StatementPartialEq.TheImpl as statement_eq
use Rattle.nm_statement.specs.declared.statement.Statement.{Statement}
use Rattle.nm_tree.specs.Span.{values_of}

abbrev lent_cmp : Bor Statement → Bor Statement → Ordering
lent_cmp x y = statement_cmp x.now y.now

lent_cmp-total : IsTotalOrder lent_cmp
lent_cmp-total = on_total (λ (x : Bor Statement). x.now) statement_cmp-total

rising_values : (xs : List (Bor Statement)) → IsStrictlySortedBy lent_cmp xs → IsRising (values_of xs)
unfolding IsStrictlySortedBy
rising_values [] r = tt
rising_values (x ∷ xs) r = (all_map (λ s. statement_cmp x.now s ≡ Less) (λ (y : Bor Statement). y.now) xs r.0, rising_values xs r.1)

values-dedup_from : (k : Bor Statement) (xs : List (Bor Statement)) → values_of (dedup_from (eq_by_cmp lent_cmp) k xs) ≡ dedup_from (eq_by_cmp statement_cmp) k.now (values_of xs)
values-dedup_from k [] = refl
values-dedup_from k (x ∷ xs) = by (eq_by_cmp lent_cmp x k) (values-dedup_from k xs) (values-dedup_from x xs)
  where
    by : (b : Bool) → values_of (dedup_from (eq_by_cmp lent_cmp) k xs) ≡ dedup_from (eq_by_cmp statement_cmp) k.now (values_of xs)
        → values_of (dedup_from (eq_by_cmp lent_cmp) x xs) ≡ dedup_from (eq_by_cmp statement_cmp) x.now (values_of xs)
        → values_of (cond b (dedup_from (eq_by_cmp lent_cmp) k xs) (k ∷ dedup_from (eq_by_cmp lent_cmp) x xs))
        ≡ cond b (dedup_from (eq_by_cmp statement_cmp) k.now (values_of xs)) (k.now ∷ dedup_from (eq_by_cmp statement_cmp) x.now (values_of xs))
    by true g h = g
    by false g h = ap (λ l. k.now ∷ l) h

values-dedup : (xs : List (Bor Statement)) → values_of (dedup (eq_by_cmp lent_cmp) xs) ≡ dedup (eq_by_cmp statement_cmp) (values_of xs)
values-dedup [] = refl
values-dedup (x ∷ xs) = values-dedup_from x xs

dedup-values : (xs ys : List (Bor Statement)) → IsPermutation xs ys → IsSorted lent_cmp ys → values_of (dedup (eq_by_cmp lent_cmp) ys) ≡ set_of (values_of xs)
dedup-values xs ys moved sorted =
    sym (set_of-members (values_of (dedup (eq_by_cmp lent_cmp) ys)) (values_of xs)
    (rising_values (dedup (eq_by_cmp lent_cmp) ys) (IsStrictlySortedBy-dedup lent_cmp-total (λ x y. refl) ys sorted))
    (λ s.
    ap (λ l. has l s) (values-dedup ys)
    ∙ has-dedup statement_cmp-total statement_cmp-equal (values_of ys) s
    ∙ sym (list_any-IsPermutation (is_same s) (values_of xs) (values_of ys) (IsPermutation-map (λ (x : Bor Statement). x.now) xs ys moved))))

-- by the order and the equality of the type
pub ordered_values : (xs ys zs : List (Bor Statement)) → IsPermutation xs ys → IsSorted (λ x y. statement_ord.ghosts.cmp x.now y.now) ys
    → IsFiltered (DiffersFromLast (λ x y. statement_eq.ghosts.eq x.now y.now)) [] ys zs → values_of zs ≡ set_of (values_of xs)
ordered_values xs ys zs moved sorted kept =
    ap values_of (dedup_is (λ x y. statement_eq.ghosts.eq x.now y.now) ys zs kept)
    ∙ ap (λ (same : Bor Statement → Bor Statement → Bool). values_of (dedup same ys)) (λ i x y. derived-eq x.now y.now i)
    ∙ dedup-values xs ys moved (subst (λ (cmp : Bor Statement → Bor Statement → Ordering). IsSorted cmp ys) (λ i x y. derived-statement_cmp x.now y.now i) sorted)
