-- What a search finds among the dependencies that are listed beside the projects.
use Rattle.std.proofs.Common.{◌≡◌, ◌∙◌, ◌⊎◌, ⊎_elim, inl, inr, ℕ, List, [], ◌∷◌, Bool, true, false, ◌&&◌, ◌||◌, ◌==◌, not, cond, Option, None, Some, Ordering, nat_cmp, refl, sym, ap, subst}
use Rattle.std.proofs.lemmas.Cmp.{nat_cmp_total, tied_itself}
use Rattle.std.proofs.lemmas.List.Elements.{All-contains, All-from_recursion}
use Rattle.std.specs.Cmp.{IsTotalOrder}
use Rattle.std.specs.List.{AllByRecursion, Contains, find, list_any}
use Rattle.std.specs.List.Sorted.{IsStrictlySortedBy}
use Rattle.std.specs.Option.{is_some, option_map}
use Rattle.std.specs.Ordering.{is_eq, is_gt, is_lt, ordering_reverse, ordering_then}
use Rattle.std.specs.declared.cmp.Ordering.TheVariants.{Less, Equal, Greater}
use Rattle.nm_blocks.specs.Items.{first_from, item_at}
use Rattle.nm_day.proofs.Orders.{key_cmp-total}
use Rattle.nm_day.specs.Key.{key_cmp}
use Rattle.nm_day.specs.declared.key.Key.{Key}
use Rattle.nm_ident.proofs.Orders.{nat_cmp-equal}
use Rattle.nm_ident.proofs.Rising.{same_answers}
use Rattle.nm_stage.proofs.AfterChange.{found_among}
use Rattle.nm_stage.proofs.Beside.{and_true, dependent_cmp-total, depends_filing}
use Rattle.nm_stage.proofs.FirstUnmet.{any_passes, below_up_to, either_of, in_none, less_is, none_passes, not_both, not_is, one_filing, or_is, or_true, passing}
use Rattle.nm_stage.proofs.Filings.{single_holder}
use Rattle.nm_stage.proofs.Found.{find_tested, list_any-find}
use Rattle.nm_stage.proofs.Lists.{numbers_same}
use Rattle.nm_stage.specs.Listed.{AreDependents, dependent, dependent_cmp, depends}
use Rattle.nm_stage.specs.Live.{IsLive, holder_of}
use Rattle.nm_stage.specs.Project.{PlainProject, has_id, key_of}
use Rattle.nm_stage.specs.Unmet.{IsFirst, IsFound, is_met, meets, misses}
use Rattle.nm_stage.specs.declared.listed.Dependent.{Dependent}

-- ---- rising items

module _ {K : Type 0} {cmp : K → K → Ordering} (o : IsTotalOrder cmp) where
  behind : (x : K) (xs : List K) → IsStrictlySortedBy cmp (x ∷ xs) → (y : K) → Contains xs y → cmp x y ≡ Less
  unfolding IsStrictlySortedBy
  behind x xs s y m = All-contains (λ z. cmp x z ≡ Less) xs y (All-from_recursion (λ z. cmp x z ≡ Less) xs s.0) m

  -- an item is what stands at its key
  pub item_own : (y : K) (xs : List K) → IsStrictlySortedBy cmp xs → Contains xs y → item_at (λ k. k) cmp y xs ≡ Some y
  unfolding IsStrictlySortedBy
  item_own y [] s m = absurd (in_none y m)
  item_own y (x ∷ xs) s m =
      ⊎_elim
      (λ e. (λ i. cond (is_eq (cmp (sym e i) x)) (Some x) (item_at (λ k. k) cmp y xs)) ∙ ap (λ r. cond (is_eq r) (Some x) (item_at (λ k. k) cmp y xs)) (tied_itself o x) ∙ ap Some e)
      (λ n. ap (λ r. cond (is_eq r) (Some x) (item_at (λ k. k) cmp y xs)) (o.antisymm y x ∙ ap ordering_reverse (behind x xs s y n)) ∙ item_own y xs s.1 n)
      (either_of x y xs m)

  -- the first from a key on is not above another that is not below the key
  pub first_up_to : (k y : K) (xs : List K) → IsStrictlySortedBy cmp xs → first_from (λ k. k) cmp k xs ≡ Some y → (z : K) → Contains xs z → is_lt (cmp z k) ≡ false → is_gt (cmp y z) ≡ false
  unfolding IsStrictlySortedBy
  first_up_to k y [] s e z m f = absurd (in_none z m)
  first_up_to k y (x ∷ xs) s e z m f = by (λ h n. first_up_to k y xs s.1 h z n f) (is_lt (cmp x k)) refl e (either_of x z xs m)
    where
      by : (first_from (λ k. k) cmp k xs ≡ Some y → Contains xs z → is_gt (cmp y z) ≡ false) → (b : Bool) → is_lt (cmp x k) ≡ b → cond (not b) (Some x) (first_from (λ k. k) cmp k xs) ≡ Some y
          → (x ≡ z) ⊎ Contains xs z → is_gt (cmp y z) ≡ false
      by later true g h (inl here) = absurd (not_both (is_lt (cmp x k)) g (ap (λ w. is_lt (cmp w k)) here ∙ f))
      by later true g h (inr n) = later h n
      by later false g h (inl here) = let at : x ≡ y = cc in (λ i. is_gt (cmp (sym at i) (sym here i))) ∙ ap is_gt (tied_itself o x)
      by later false g h (inr n) = let at : x ≡ y = cc in ap (λ w. is_gt (cmp w z)) (sym at) ∙ ap is_gt (behind x xs s z n)

  pub first_none : (k : K) (xs : List K) → first_from (λ k. k) cmp k xs ≡ None → (z : K) → Contains xs z → is_lt (cmp z k) ≡ false → ⊥
  first_none k xs e z m f =
      not_both (not (is_lt (cmp z k))) (ap not f) (none_passes (λ x. not (is_lt (cmp x k))) xs (sym (list_any-find (λ x. not (is_lt (cmp x k))) xs) ∙ ap is_some e) z m)

  pub first_not_below : (k y : K) (xs : List K) → first_from (λ k. k) cmp k xs ≡ Some y → is_lt (cmp y k) ≡ false
  first_not_below k y xs e = not_is (is_lt (cmp y k)) (find_tested (λ x. not (is_lt (cmp x k))) xs y e)

-- ---- the dependencies and the projects

module _ (needs : List Dependent) (live : List PlainProject) (kept : AreDependents needs live) (rising : IsStrictlySortedBy dependent_cmp needs) (l : IsLive live) where
  -- each is a project's
  record IsNeeded (need : Dependent) : Type 0 where
    pub project : PlainProject
    pub among : Contains live project
    pub has : has_id project.dependencies need.dependency ≡ true
    pub at : need.key ≡ key_of project

  needs_is : (need : Dependent) → Contains needs need → IsNeeded need
  needs_is need m = by (find (depends need) live) refl (sym (item_own dependent_cmp-total need needs rising m) ∙ kept need)
    where
      by : (found : Option PlainProject) → find (depends need) live ≡ found → Some need ≡ option_map (λ project. dependent (key_of project) need.dependency) found → IsNeeded need
      by None e f = absurd (let wrong = f in cc)
      by (Some p) e f =
          let same : need ≡ dependent (key_of p) need.dependency = cc in
          record {
            project = p;
            among = found_among (depends need) live p e;
            has = (and_true (has_id p.dependencies need.dependency) (is_eq (key_cmp need.key (key_of p))) (find_tested (depends need) live p e)).0;
            at = ap (λ (d : Dependent). d.key) same;
          }

  -- each dependency of a project is listed
  needs_has : (q : PlainProject) (id : ℕ) → Contains live q → has_id q.dependencies id ≡ true → Contains needs (dependent (key_of q) id)
  needs_has q id m has = by (find (depends need) live) refl (kept need)
    where
      need : Dependent
      need = dependent (key_of q) id

      own : depends need q ≡ true
      own = λ i. has i && is_eq (tied_itself key_cmp-total (key_of q) i)

      by : (found : Option PlainProject) → find (depends need) live ≡ found → item_at (λ d. d) dependent_cmp need needs ≡ option_map (λ project. dependent (key_of project) id) found → Contains needs need
      by None e f = absurd (not_both (list_any (depends need) live) (any_passes (depends need) live q m own) (sym (list_any-find (depends need) live) ∙ ap is_some e))
      by (Some r) e f =
          let filing : r.filing ≡ q.filing = sym (depends_filing need r (find_tested (depends need) live r e)) ∙ depends_filing need q own in
          let same : r ≡ q = one_filing r q live l.rising (found_among (depends need) live r e) m filing in
          found_among (λ d. is_eq (dependent_cmp need d)) needs need (f ∙ ap (λ (p : PlainProject). Some (dependent (key_of p) id)) same)

  abbrev pub has_dependency : PlainProject → ℕ → Bool
  has_dependency q j = has_id q.dependencies j

  module _ (from : Dependent) where
    -- a project that depends on the id, from the key on
    abbrev pub from_there : PlainProject → ℕ → Bool
    from_there q j = has_id q.dependencies j && ((j == from.dependency) && not (is_lt (key_cmp (key_of q) from.key)))

    record IsThere (q : PlainProject) (j : ℕ) : Type 0 where
      listed : Contains needs (dependent (key_of q) from.dependency)
      at : j ≡ from.dependency
      behind : is_lt (dependent_cmp (dependent (key_of q) from.dependency) from) ≡ false

    there : (q : PlainProject) (j : ℕ) → Contains live q → from_there q j ≡ true → IsThere q j
    there q j m e =
        let parts = and_true (has_id q.dependencies j) ((j == from.dependency) && not (is_lt (key_cmp (key_of q) from.key))) e in
        let others = and_true (j == from.dependency) (not (is_lt (key_cmp (key_of q) from.key))) parts.1 in
        let at : j ≡ from.dependency = numbers_same j from.dependency others.0 in
        record {
          listed = needs_has q from.dependency m (ap (λ i. has_id q.dependencies i) (sym at) ∙ parts.0);
          at = at;
          behind = ap (λ r. is_lt (ordering_then r (key_cmp (key_of q) from.key))) (tied_itself nat_cmp_total from.dependency) ∙ not_is (is_lt (key_cmp (key_of q) from.key)) others.1;
        }

    pub first_is_none : first_from (λ d. d) dependent_cmp from needs ≡ None → IsFirst live has_dependency from_there None
    first_is_none e = record {
      sound = λ found f. absurd (let wrong = f in cc);
      first = λ q j m f. let one = there q j m f in absurd (first_none dependent_cmp-total from needs e (dependent (key_of q) from.dependency) one.listed one.behind);
    }

    pub first_is_there : (need : Dependent) → first_from (λ d. d) dependent_cmp from needs ≡ Some need → need.dependency ≡ from.dependency → IsFirst live has_dependency from_there (Some (need.key, from.dependency))
    first_is_there need e same = record {
      sound = λ found f.
          let is : (need.key, from.dependency) ≡ found = cc in
          let one = needs_is need (found_among (λ d. not (is_lt (dependent_cmp d from))) needs need e) in
          subst (IsFound live has_dependency) is (record { project = one.project; among = one.among; passes = ap (has_id one.project.dependencies) (sym same) ∙ one.has; at = one.at });
      first = λ q j m f.
          let one = there q j m f in
          let low = first_up_to dependent_cmp-total from need needs rising e (dependent (key_of q) from.dependency) one.listed one.behind in
          let keys : is_gt (key_cmp need.key (key_of q)) ≡ false =
          sym ((λ i. is_gt (ordering_then (nat_cmp (same i) from.dependency) (key_cmp need.key (key_of q)))) ∙ ap (λ r. is_gt (ordering_then r (key_cmp need.key (key_of q)))) (tied_itself nat_cmp_total from.dependency)) ∙ low
          in
          (λ i. is_gt (ordering_then (key_cmp need.key (key_of q)) (nat_cmp from.dependency (one.at i)))) ∙ ap (λ r. is_gt (ordering_then (key_cmp need.key (key_of q)) r)) (tied_itself nat_cmp_total from.dependency) ∙ then_level_not_above (key_cmp need.key (key_of q)) keys;
    }
      where
        then_level_not_above : (r : Ordering) → is_gt r ≡ false → is_gt (ordering_then r Equal) ≡ false
        then_level_not_above Less f = refl
        then_level_not_above Equal f = refl
        then_level_not_above Greater f = f

    pub first_is_other : (need : Dependent) → first_from (λ d. d) dependent_cmp from needs ≡ Some need → (need.dependency ≡ from.dependency → ⊥) → IsFirst live has_dependency from_there None
    first_is_other need e differ = record {
      sound = λ found f. absurd (let wrong = f in cc);
      first = λ q j m f.
          let one = there q j m f in
          let low = first_up_to dependent_cmp-total from need needs rising e (dependent (key_of q) from.dependency) one.listed one.behind in
          absurd (by (key_cmp need.key from.key) (key_cmp need.key (key_of q)) (nat_cmp need.dependency from.dependency) refl (first_not_below dependent_cmp-total from need needs e) low);
    }
      where
        by : (q r s : Ordering) → nat_cmp need.dependency from.dependency ≡ s → is_lt (ordering_then s q) ≡ false → is_gt (ordering_then s r) ≡ false → ⊥
        by q r Less g a b = let wrong = a in cc
        by q r Equal g a b = differ (nat_cmp-equal need.dependency from.dependency g)
        by q r Greater g a b = let wrong = b in cc

-- ---- those that miss it

-- what meets a dependency at a key meets it at later ones
pub met_later : (known : List ℕ) (live : List PlainProject) (k j : Key) (id : ℕ) → is_gt (key_cmp k j) ≡ false → is_met known live k id ≡ true → is_met known live j id ≡ true
met_later known live k j id low e =
    ⊎_elim (λ f. ap (λ b. b || list_any (meets j id) live) f)
    (λ f. let (q, m, g) = passing (meets k id) live f in
    let parts = and_true (has_id q.lineage id) (is_lt (key_cmp (key_of q) k)) g in
    let under : key_cmp (key_of q) j ≡ Less = below_up_to key_cmp-total (key_of q) k j (less_is (key_cmp (key_of q) k) parts.1) low in
    ap (λ b. has_id known id || b) (any_passes (meets j id) live q m (λ i. parts.0 i && is_lt (under i))) ∙ or_true (has_id known id))
    (or_is (has_id known id) (list_any (meets k id) live) e)

-- of the first that depends on an id: it misses it, or none behind it does
module _ (known : List ℕ) (live : List PlainProject) (from : Dependent) where
  abbrev pub misses_there : PlainProject → ℕ → Bool
  misses_there q j = misses known live q j && ((j == from.dependency) && not (is_lt (key_cmp (key_of q) from.key)))

  abbrev depends_there : PlainProject → ℕ → Bool
  depends_there q j = has_id q.dependencies j && ((j == from.dependency) && not (is_lt (key_cmp (key_of q) from.key)))

  misses_depends : (q : PlainProject) (j : ℕ) → misses_there q j ≡ true → depends_there q j ≡ true
  misses_depends q j e =
      let extra = (j == from.dependency) && not (is_lt (key_cmp (key_of q) from.key)) in
      let parts = and_true (misses known live q j) extra e in
      let has = (and_true (has_id q.dependencies j) (not (is_met known live (key_of q) j)) parts.0).0 in
      λ i. has i && parts.1 i

  pub missed_first : (key : Key) → IsFirst live (λ q j. has_id q.dependencies j) depends_there (Some (key, from.dependency)) → is_met known live key from.dependency ≡ false
      → IsFirst live (misses known live) misses_there (Some (key, from.dependency))
  missed_first key h unmet = record {
    sound = λ found f.
        let same : (key, from.dependency) ≡ found = cc in
        let one = h.sound (key, from.dependency) refl in
        subst (IsFound live (misses known live)) same (record {
          project = one.project;
          among = one.among;
          passes = (λ i. one.passes i && not (is_met known live (sym one.at i) from.dependency)) ∙ ap not unmet;
          at = one.at;
        });
    first = λ q j m e. h.first q j m (misses_depends q j e);
  }

  pub missed_later : (key : Key) → IsFirst live (λ q j. has_id q.dependencies j) depends_there (Some (key, from.dependency)) → is_met known live key from.dependency ≡ true
      → IsFirst live (misses known live) misses_there None
  missed_later key h met = record {
    sound = λ found f. absurd (let wrong = f in cc);
    first = λ q j m e.
        let extra = (j == from.dependency) && not (is_lt (key_cmp (key_of q) from.key)) in
        let parts = and_true (misses known live q j) extra e in
        let unmet = not_is (is_met known live (key_of q) j) (and_true (has_id q.dependencies j) (not (is_met known live (key_of q) j)) parts.0).1 in
        let at : j ≡ from.dependency = numbers_same j from.dependency (and_true (j == from.dependency) (not (is_lt (key_cmp (key_of q) from.key))) parts.1).0 in
        let low : is_gt (key_cmp key (key_of q)) ≡ false = first_up (key_cmp key (key_of q)) (nat_cmp from.dependency j) (h.first q j m (misses_depends q j e)) in
        absurd (not_both (is_met known live (key_of q) j) (ap (is_met known live (key_of q)) at ∙ met_later known live key (key_of q) from.dependency low met) unmet);
  }
    where
      first_up : (r s : Ordering) → is_gt (ordering_then r s) ≡ false → is_gt r ≡ false
      first_up Less s f = refl
      first_up Equal s f = refl
      first_up Greater s f = f

-- ---- the project that holds an id

abbrev pub holds_before : Key → Option PlainProject → Bool
holds_before key None = false
holds_before key (Some project) = is_lt (key_cmp (key_of project) key)

pub held_before : (key : Key) (id : ℕ) (live : List PlainProject) → IsLive live → holds_before key (holder_of id live) ≡ list_any (meets key id) live
held_before key id live l = by (holder_of id live) refl
  where
    one : (p q : PlainProject) → holder_of id live ≡ Some p → Contains live q → has_id q.lineage id ≡ true → q ≡ p
    one p q e m has =
        let there = found_among (λ (x : PlainProject). has_id x.lineage id) live p e in
        let all = All-contains (λ x. AllByRecursion (λ y. has_id x.lineage id ≡ true → has_id y.lineage id ≡ true → x.filing ≡ y.filing) live) live q
        (All-from_recursion (λ x. AllByRecursion (λ y. has_id x.lineage id ≡ true → has_id y.lineage id ≡ true → x.filing ≡ y.filing) live) live (single_holder id live l.apart)) m
        in
        one_filing q p live l.rising m there
        (All-contains (λ y. has_id q.lineage id ≡ true → has_id y.lineage id ≡ true → q.filing ≡ y.filing) live p
        (All-from_recursion (λ y. has_id q.lineage id ≡ true → has_id y.lineage id ≡ true → q.filing ≡ y.filing) live all) there has (find_tested (λ (x : PlainProject). has_id x.lineage id) live p e))

    by : (found : Option PlainProject) → holder_of id live ≡ found → holds_before key found ≡ list_any (meets key id) live
    by None e =
        same_answers false (list_any (meets key id) live) (λ f. absurd (let wrong = f in cc))
        (λ f. let (q, m, g) = passing (meets key id) live f in
        absurd (not_both (list_any (λ (x : PlainProject). has_id x.lineage id) live)
        (any_passes (λ (x : PlainProject). has_id x.lineage id) live q m (and_true (has_id q.lineage id) (is_lt (key_cmp (key_of q) key)) g).0)
        (sym (list_any-find (λ (x : PlainProject). has_id x.lineage id) live) ∙ ap is_some e)))
    by (Some p) e =
        same_answers (is_lt (key_cmp (key_of p) key)) (list_any (meets key id) live)
        (λ f. any_passes (meets key id) live p (found_among (λ (x : PlainProject). has_id x.lineage id) live p e) (λ i. find_tested (λ (x : PlainProject). has_id x.lineage id) live p e i && f i))
        (λ f. let (q, m, g) = passing (meets key id) live f in
        let parts = and_true (has_id q.lineage id) (is_lt (key_cmp (key_of q) key)) g in
        ap (λ (x : PlainProject). is_lt (key_cmp (key_of x) key)) (sym (one p q e m parts.0)) ∙ parts.1)
