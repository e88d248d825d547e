-- The first dependency that is not met, as it is told by the projects that have one.
use Rattle.std.proofs.Common.{◌≡◌, ◌∙◌, ◌⊎◌, ⊎_elim, inl, inr, ℕ, ◌<◌, ◌≤◌, List, [], ◌∷◌, ◌++◌, Bool, true, false, ◌&&◌, ◌||◌, ◌==◌, not, cond, min, IsPermutation, Option, None, Some, Ordering, nat_cmp, refl, sym, ap, subst, arith}
use Rattle.std.proofs.lemmas.Bool.{cases_order}
use Rattle.std.proofs.lemmas.Cmp.{alike_right, nat_cmp_total, on_total, then_total, tied_itself}
use Rattle.std.proofs.lemmas.List.Elements.{All-contains, All-contains_itself, All-filter, All-from_recursion, All-head, Contains-append_cases, Contains-append_right, Contains-push_cases}
use Rattle.std.proofs.lemmas.List.Folds.{Any-from_list_any, list_any-append, list_any-from_Any}
use Rattle.std.proofs.lemmas.List.Sorted.{All-permutation, IsPermutation-sym, list_any-IsPermutation}
use Rattle.std.specs.Cmp.{IsTotalOrder, nat_cmp_is}
use Rattle.std.specs.List.{Any, AllByRecursion, Contains, filter, list_any}
use Rattle.std.specs.List.Sorted.{IsStrictlySortedBy}
use Rattle.std.specs.Ordering.{is_eq, is_gt, is_lt, ordering_reverse, ordering_then}
use Rattle.std.specs.declared.cmp.Ordering.TheVariants.{Less, Equal, Greater}
use Rattle.nm_day.proofs.Orders.{key_cmp-total}
use Rattle.nm_day.specs.Key.{key_cmp}
use Rattle.nm_day.specs.declared.key.Key.{Key}
use Rattle.nm_ident.proofs.Rising.{all_weaker}
use Rattle.nm_stage.proofs.Beside.{level_filing, same_numbers, then_level}
use Rattle.nm_stage.proofs.Filings.{above, differ}
use Rattle.nm_stage.proofs.Lists.{numbers_laws, numbers_same}
use Rattle.nm_stage.proofs.Orders.{live_projects_stand_in_order}
use Rattle.nm_stage.specs.Dependencies.{least_of, least_or, missing_from, missing_of, missing_or, unmet}
use Rattle.nm_stage.specs.Live.{IsLive, filed_as, filing_cmp}
use Rattle.nm_stage.specs.Project.{PlainProject, has_id, key_of}
use Rattle.nm_stage.specs.Steps.{in_order, project_cmp}
use Rattle.nm_stage.specs.Unmet.{IsFirst, IsFound, IsUpTo, earlier, meets, misses, missing_cmp}

-- ---- items of lists

module _ {X : Type 0} where
  pub at_first : (x : X) (xs : List X) → Contains (x ∷ xs) x
  at_first x xs = All-head (Contains (x ∷ xs)) x xs (All-contains_itself (x ∷ xs))

  pub behind_it : (x y : X) (xs : List X) → Contains xs y → Contains (x ∷ xs) y
  behind_it x y xs m = Contains-append_right (x ∷ []) xs y m

  pub in_none : (y : X) → Contains [] y → ⊥
  in_none y (k, below, at) = omega (arith, below)

  pub either_of : (x y : X) (xs : List X) → Contains (x ∷ xs) y → (x ≡ y) ⊎ Contains xs y
  either_of x y xs m =
      ⊎_elim (λ n. ⊎_elim (λ none. absurd (in_none y none)) (λ e. inl e) (Contains-push_cases [] x y n)) (λ n. inr n) (Contains-append_cases (x ∷ []) xs y m)

  pub kept : (test : X → Bool) (y : X) → test y ≡ true → (xs : List X) → Contains xs y → Contains (filter test xs) y
  kept test y e [] m = absurd (in_none y m)
  kept test y e (x ∷ xs) m = by (λ n. kept test y e xs n) (test x) refl (either_of x y xs m)
    where
      by : (Contains xs y → Contains (filter test xs) y) → (b : Bool) → test x ≡ b → (x ≡ y) ⊎ Contains xs y → Contains (cond b (x ∷ filter test xs) (filter test xs)) y
      by later true f (inl same) = subst (Contains (x ∷ filter test xs)) same (at_first x (filter test xs))
      by later true f (inr n) = behind_it x y (filter test xs) (later n)
      by later false f (inl same) = absurd (let wrong : false ≡ true = sym f ∙ ap test same ∙ e in cc)
      by later false f (inr n) = later n

  pub kept_of : (test : X → Bool) (y : X) (xs : List X) → Contains (filter test xs) y → Contains xs y
  kept_of test y xs m = All-contains (Contains xs) (filter test xs) y (All-filter test (Contains xs) xs (All-contains_itself xs)) m

  pub any_passes : (test : X → Bool) (xs : List X) (y : X) → Contains xs y → test y ≡ true → list_any test xs ≡ true
  any_passes test xs y (k, below, at) e = list_any-from_Any test xs (k, y, below, at, e)

  pub none_passes : (test : X → Bool) (xs : List X) → list_any test xs ≡ false → (y : X) → Contains xs y → test y ≡ false
  none_passes test xs e y m = by (test y) refl
    where
      by : (b : Bool) → test y ≡ b → test y ≡ false
      by true f = absurd (let wrong : true ≡ false = sym (any_passes test xs y m f) ∙ e in cc)
      by false f = f

  pub passing : (test : X → Bool) (xs : List X) → list_any test xs ≡ true → (y : X) × Contains xs y × (test y ≡ true)
  passing test xs e = by (Any-from_list_any test xs e)
    where
      by : Any (λ x. test x ≡ true) xs → (y : X) × Contains xs y × (test y ≡ true)
      by (k, y, below, at, f) = (y, (k, below, at), f)

-- ---- two Bools

pub or_is : (a b : Bool) → (a || b) ≡ true → (a ≡ true) ⊎ (b ≡ true)
or_is true b e = inl refl
or_is false b e = inr e

and_false : (b : Bool) → (b && false) ≡ false
and_false true = refl
and_false false = refl

pub or_true : (a : Bool) → (a || true) ≡ true
or_true true = refl
or_true false = refl

pub not_is : (a : Bool) → not a ≡ true → a ≡ false
not_is true e = absurd (let wrong = e in cc)
not_is false e = refl

pub not_both : (a : Bool) → a ≡ true → a ≡ false → ⊥
not_both a e f = let wrong : true ≡ false = sym e ∙ f in cc

-- ---- the least of some ids

pub least_none : (ids : List ℕ) → least_of ids ≡ None → (id : ℕ) → has_id ids id ≡ false
least_none [] e id = refl
least_none (x ∷ xs) e id = absurd (let wrong = e in cc)

pub least_some : (ids : List ℕ) (least : ℕ) → least_of ids ≡ Some least → (has_id ids least ≡ true) × ((id : ℕ) → has_id ids id ≡ true → least ≤ id)
least_some [] least e = absurd (let wrong = e in cc)
least_some (x ∷ xs) least e = by (least_of xs) refl (λ m f. least_some xs m f) e
  where
    first : (l : ℕ) → l ≡ x → has_id (x ∷ xs) l ≡ true
    first l same = ap (λ b. b || has_id xs l) (ap (λ n. n == x) same ∙ numbers_laws.refl x)

    second : (l : ℕ) → has_id xs l ≡ true → has_id (x ∷ xs) l ≡ true
    second l f = ap (λ b. (l == x) || b) f ∙ or_true (l == x)

    by : (o : Option ℕ) → least_of xs ≡ o → ((m : ℕ) → least_of xs ≡ Some m → (has_id xs m ≡ true) × ((id : ℕ) → has_id xs id ≡ true → m ≤ id))
        → Some (least_or x o) ≡ Some least → (has_id (x ∷ xs) least ≡ true) × ((id : ℕ) → has_id (x ∷ xs) id ≡ true → least ≤ id)
    by None f h g =
        let same : x ≡ least = cc in
        (first least (sym same), λ id k. ⊎_elim (λ here. let at : id ≡ x = numbers_same id x here in omega (arith, at, same)) (λ there. absurd (not_both (has_id xs id) there (least_none xs f id))) (or_is (id == x) (has_id xs id) k))
    by (Some m) f h g =
        let same : min x m ≡ least = cc in
        let others = h m f in (
          ⊎_elim (λ e. first least (omega (arith, same, e))) (λ c. ⊎_elim (λ e. first least (omega (arith, same, e))) (λ e. let at : m ≡ least = omega (arith, same, e) in subst (λ (n : ℕ). has_id (x ∷ xs) n ≡ true) at (second m others.0)) c) (cases_order x m),
          λ id k. ⊎_elim (λ here. let at : id ≡ x = numbers_same id x here in omega (arith, at, same)) (λ there. let low : m ≤ id = others.1 id there in omega (arith, low, same)) (or_is (id == x) (has_id xs id) k),
        )

-- what a choice of ids has
pub has-filter : (p : ℕ → Bool) (ids : List ℕ) (id : ℕ) → has_id (filter p ids) id ≡ (has_id ids id && p id)
has-filter p [] id = refl
has-filter p (x ∷ xs) id = by (has-filter p xs id) (p x) refl (id == x) refl
  where
    by : has_id (filter p xs) id ≡ (has_id xs id && p id) → (b : Bool) → p x ≡ b → (a : Bool) → (id == x) ≡ a → has_id (cond b (x ∷ filter p xs) (filter p xs)) id ≡ ((a || has_id xs id) && p id)
    by h true e true f = ap (λ c. c || has_id (filter p xs) id) f ∙ sym (ap p (numbers_same id x f) ∙ e)
    by h true e false f = ap (λ c. c || has_id (filter p xs) id) f ∙ h
    by h false e true f = h ∙ (λ i. has_id xs id && (ap p (numbers_same id x f) ∙ e) i) ∙ and_false (has_id xs id) ∙ sym (ap p (numbers_same id x f) ∙ e)
    by h false e false f = h

-- ---- keys

module _ {K : Type 0} {cmp : K → K → Ordering} (o : IsTotalOrder cmp) where
  -- what is below a key is below one that is not under that
  pub below_up_to : (r k j : K) → cmp r k ≡ Less → is_gt (cmp k j) ≡ false → cmp r j ≡ Less
  below_up_to r k j e f = by (cmp k j) refl f
    where
      by : (s : Ordering) → cmp k j ≡ s → is_gt s ≡ false → cmp r j ≡ Less
      by Less g h = o.trans r k j e g
      by Equal g h = sym (alike_right o k j r g) ∙ e
      by Greater g h = absurd (let wrong = h in cc)

  pub up_to_all : (x y z : K) → is_gt (cmp x y) ≡ false → is_gt (cmp y z) ≡ false → is_gt (cmp x z) ≡ false
  up_to_all x y z e f = by (cmp x y) refl e
    where
      by : (s : Ordering) → cmp x y ≡ s → is_gt s ≡ false → is_gt (cmp x z) ≡ false
      by Less g h = ap is_gt (below_up_to x y z g f)
      by Equal g h = ap is_gt (o.congr x y z g) ∙ f
      by Greater g h = absurd (let wrong = h in cc)

  -- two keys, neither of which is above the other
  pub level : (x y : K) → is_gt (cmp x y) ≡ false → is_gt (cmp y x) ≡ false → cmp x y ≡ Equal
  level x y e f = by (cmp x y) refl e
    where
      by : (s : Ordering) → cmp x y ≡ s → is_gt s ≡ false → cmp x y ≡ Equal
      by Less g h = absurd (let high : is_gt (cmp y x) ≡ true = ap is_gt (o.antisymm y x ∙ ap ordering_reverse g) in not_both (is_gt (cmp y x)) high f)
      by Equal g h = g
      by Greater g h = absurd (let wrong = h in cc)

pub missing_cmp-total : IsTotalOrder missing_cmp
missing_cmp-total = then_total (on_total (λ (x : Key × ℕ). x.0) key_cmp-total) (on_total (λ (x : Key × ℕ). x.1) nat_cmp_total)

numbers_up_to : (m n : ℕ) → m ≤ n → is_gt (nat_cmp m n) ≡ false
numbers_up_to m n h =
    ⊎_elim (λ e. ap is_gt (sym (nat_cmp_is m n Equal e))) (λ c. ⊎_elim (λ e. ap is_gt (sym (nat_cmp_is m n Less e))) (λ e. absurd (omega (arith, h, e))) c) (cases_order m n)

pub less_is : (s : Ordering) → is_lt s ≡ true → s ≡ Less
less_is Less e = refl
less_is Equal e = absurd (let wrong = e in cc)
less_is Greater e = absurd (let wrong = e in cc)

-- ---- the first of the projects in order

pub or_false : (b : Bool) → (b || false) ≡ b
or_false true = refl
or_false false = refl

-- none of those that are not earlier meets a dependency
unmet_by : (key : Key) (id : ℕ) (ps : List PlainProject) → AllByRecursion (λ p. is_lt (key_cmp (key_of p) key) ≡ false) ps → list_any (meets key id) ps ≡ false
unmet_by key id [] a = refl
unmet_by key id (p ∷ ps) a = (λ i. (has_id p.lineage id && a.0 i) || unmet_by key id ps a.1 i) ∙ ap (λ b. b || false) (and_false (has_id p.lineage id))

not_below : (p q : PlainProject) → project_cmp p q ≡ Less → is_lt (key_cmp (key_of q) (key_of p)) ≡ false
not_below p q e = ap is_lt (key_cmp-total.antisymm (key_of q) (key_of p) ∙ ap ordering_reverse e)

-- the first of the projects meets none of its dependencies
own_misses : (known : List ℕ) (p : PlainProject) (ps : List PlainProject) → AllByRecursion (λ q. project_cmp p q ≡ Less) ps → (id : ℕ)
    → misses known (p ∷ ps) p id ≡ (has_id p.dependencies id && not (has_id known id))
own_misses known p ps a id =
    ap (λ b. has_id p.dependencies id && not (has_id known id || b))
    (unmet_by (key_of p) id (p ∷ ps) (ap is_lt (tied_itself key_cmp-total (key_of p)), all_weaker (λ q. project_cmp p q ≡ Less) (λ q. is_lt (key_cmp (key_of q) (key_of p)) ≡ false) (λ q e. not_below p q e) ps a))
    ∙ ap (λ b. has_id p.dependencies id && not b) (or_false (has_id known id))

-- what is reached with it is known to those behind it
other_misses : (known : List ℕ) (p : PlainProject) (ps : List PlainProject) (q : PlainProject) → project_cmp p q ≡ Less → (id : ℕ)
    → misses known (p ∷ ps) q id ≡ misses (known ++ p.lineage) ps q id
other_misses known p ps q e id =
    let others = list_any (meets (key_of q) id) ps in
    ap (λ r. has_id q.dependencies id && not (has_id known id || ((has_id p.lineage id && is_lt r) || others))) e
    ∙ ap (λ b. has_id q.dependencies id && not b) (shape (has_id known id) (has_id p.lineage id) others ∙ ap (λ b. b || others) (sym (list_any-append (λ other. id == other) known p.lineage)))
  where
    shape : (a b c : Bool) → (a || ((b && true) || c)) ≡ ((a || b) || c)
    shape true b c = refl
    shape false true c = refl
    shape false false c = refl

first_in_order : (known : List ℕ) (ps : List PlainProject) → IsStrictlySortedBy project_cmp ps → IsFirst ps (misses known ps) (misses known ps) (missing_from known ps)
unfolding IsStrictlySortedBy
first_in_order known [] s = record { sound = λ f e. absurd (let wrong = e in cc); first = λ q id m e. absurd (in_none q m) }
first_in_order known (p ∷ ps) s = by (least_of (unmet known p.dependencies)) refl (first_in_order (known ++ p.lineage) ps s.1)
  where
    later : List ℕ
    later = known ++ p.lineage

    missed : PlainProject → ℕ → Bool
    missed = misses known (p ∷ ps)

    behind : (q : PlainProject) → Contains ps q → project_cmp p q ≡ Less
    behind q m = All-contains (λ q. project_cmp p q ≡ Less) ps q (All-from_recursion (λ q. project_cmp p q ≡ Less) ps s.0) m

    own : (id : ℕ) → missed p id ≡ has_id (unmet known p.dependencies) id
    own id = own_misses known p ps s.0 id ∙ sym (has-filter (λ i. not (has_id known i)) p.dependencies id)

    by : (least : Option ℕ) → least_of (unmet known p.dependencies) ≡ least → IsFirst ps (misses later ps) (misses later ps) (missing_from later ps)
        → IsFirst (p ∷ ps) missed missed (missing_or p least (missing_from later ps))
    by None f h = record {
      sound = λ found e. let one = h.sound found e in record {
        project = one.project;
        among = behind_it p one.project ps one.among;
        passes = other_misses known p ps one.project (behind one.project one.among) found.1 ∙ one.passes;
        at = one.at;
      };
      first = λ q id m e. ⊎_elim
          (λ same. absurd (not_both (missed p id) (ap (λ x. missed x id) same ∙ e) (own id ∙ least_none (unmet known p.dependencies) f id)))
          (λ n. h.first q id n (sym (other_misses known p ps q (behind q n) id) ∙ e))
          (either_of p q ps m);
    }
    by (Some id0) f h =
        let least = least_some (unmet known p.dependencies) id0 f in
        record {
          sound = λ found e.
              let same : (key_of p, id0) ≡ found = cc in
              subst (IsFound (p ∷ ps) missed) same (record { project = p; among = at_first p ps; passes = own id0 ∙ least.0; at = refl });
          first = λ q id m e. ⊎_elim
              (λ same.
              ap (λ (x : PlainProject). is_gt (ordering_then (key_cmp (key_of p) (key_of x)) (nat_cmp id0 id))) (sym same)
              ∙ ap (λ r. is_gt (ordering_then r (nat_cmp id0 id))) (tied_itself key_cmp-total (key_of p))
              ∙ numbers_up_to id0 id (least.1 id (sym (own id) ∙ ap (λ x. missed x id) same ∙ e)))
              (λ n. ap (λ r. is_gt (ordering_then r (nat_cmp id0 id))) (behind q n))
              (either_of p q ps m);
        }

pub first_of_missing : (known : List ℕ) (live : List PlainProject) → IsLive live → IsFirst live (misses known live) (misses known live) (missing_of known live)
first_of_missing known live l =
    let ordered = in_order live in
    let order = live_projects_stand_in_order live l in
    let h = first_in_order known ordered order.rising in
    let same : (q : PlainProject) (id : ℕ) → misses known live q id ≡ misses known ordered q id =
    λ q id. ap (λ b. has_id q.dependencies id && not (has_id known id || b)) (list_any-IsPermutation (meets (key_of q) id) live ordered order.all)
    in
    record {
      sound = λ found e. let one = h.sound found e in record {
        project = one.project;
        among = moved ordered live (IsPermutation-sym live ordered order.all) one.project one.among;
        passes = same one.project found.1 ∙ one.passes;
        at = one.at;
      };
      first = λ q id m e. h.first q id (moved live ordered order.all q m) (sym (same q id) ∙ e);
    }
  where
    moved : (xs ys : List PlainProject) → IsPermutation xs ys → (q : PlainProject) → Contains xs q → Contains ys q
    moved xs ys moves q m =
        All-contains (Contains ys) xs q (All-permutation (Contains ys) ys xs (IsPermutation-sym xs ys moves) (All-contains_itself ys)) m

-- ---- one answer

pub filed_among : (p : PlainProject) (live : List PlainProject) → IsStrictlySortedBy filing_cmp live → Contains live p → filed_as p.filing live ≡ Some p
unfolding IsStrictlySortedBy
filed_among p [] s m = absurd (in_none p m)
filed_among p (x ∷ xs) s m =
    ⊎_elim
    (λ same. subst (λ (q : PlainProject). filed_as q.filing (x ∷ xs) ≡ Some q) same (ap (λ b. cond b (Some x) (filed_as x.filing xs)) (numbers_laws.refl x.filing)))
    (λ n.
    let less : x.filing < p.filing = above x p (All-contains (λ y. filing_cmp x y ≡ Less) xs p (All-from_recursion (λ y. filing_cmp x y ≡ Less) xs s.0) n) in
    ap (λ b. cond b (Some x) (filed_as p.filing xs)) (differ x.filing p.filing less) ∙ filed_among p xs s.1 n)
    (either_of x p xs m)

pub one_filing : (p q : PlainProject) (live : List PlainProject) → IsStrictlySortedBy filing_cmp live → Contains live p → Contains live q → p.filing ≡ q.filing → p ≡ q
one_filing p q live s m n e =
    let same : Some p ≡ Some q = sym (filed_among p live s m) ∙ ap (λ filing. filed_as filing live) e ∙ filed_among q live s n in
    cc

pub only_one : (live : List PlainProject) (test : PlainProject → ℕ → Bool) → IsStrictlySortedBy filing_cmp live → (x y : Option (Key × ℕ)) → IsFirst live test test x → IsFirst live test test y → x ≡ y
only_one live test s None None f g = refl
only_one live test s None (Some y) f g = let one = g.sound y refl in absurd (f.first one.project y.1 one.among one.passes)
only_one live test s (Some x) None f g = let one = f.sound x refl in absurd (g.first one.project x.1 one.among one.passes)
only_one live test s (Some x) (Some y) f g =
    let one = f.sound x refl in
    let other = g.sound y refl in
    let low : is_gt (missing_cmp x y) ≡ false = ap (λ key. is_gt (missing_cmp x (key, y.1))) other.at ∙ f.first other.project y.1 other.among other.passes in
    let high : is_gt (missing_cmp y x) ≡ false = ap (λ key. is_gt (missing_cmp y (key, x.1))) one.at ∙ g.first one.project x.1 one.among one.passes in
    let parts = then_level (key_cmp x.0 y.0) (nat_cmp x.1 y.1) (ap is_eq (level missing_cmp-total x y low high)) in
    let filings = sym (ap (λ (k : Key). k.filing) one.at) ∙ level_filing x.0 y.0 parts.0 ∙ ap (λ (k : Key). k.filing) other.at in
    let same : one.project ≡ other.project = one_filing one.project other.project live s one.among other.among filings in
    let keys : x.0 ≡ y.0 = one.at ∙ ap key_of same ∙ sym other.at in
    let ids : x.1 ≡ y.1 = same_numbers x.1 y.1 parts.1 in
    λ i. Some (keys i, ids i)

-- ---- firsts put together

pub claims_less : (live : List PlainProject) (test claimed fewer : PlainProject → ℕ → Bool) (found : Option (Key × ℕ)) → ((q : PlainProject) (id : ℕ) → Contains live q → fewer q id ≡ true → claimed q id ≡ true)
    → IsFirst live test claimed found → IsFirst live test fewer found
claims_less live test claimed fewer found f h = record { sound = h.sound; first = λ q id m e. h.first q id m (f q id m e) }

pub up_to_further : (x y z : Key × ℕ) → is_gt (missing_cmp x y) ≡ false → IsUpTo (Some y) z → IsUpTo (Some x) z
up_to_further x y z e f = up_to_all missing_cmp-total x y z e f

pub first_of_both : (live : List PlainProject) (test c d : PlainProject → ℕ → Bool) (x y : Option (Key × ℕ)) → IsFirst live test c x → IsFirst live test d y
    → IsFirst live test (λ q id. c q id || d q id) (earlier x y)
first_of_both live test c d None y f g = record { sound = g.sound; first = λ q id m e. ⊎_elim (λ h. absurd (f.first q id m h)) (λ h. g.first q id m h) (or_is (c q id) (d q id) e) }
first_of_both live test c d (Some x) None f g = record { sound = f.sound; first = λ q id m e. ⊎_elim (λ h. f.first q id m h) (λ h. absurd (g.first q id m h)) (or_is (c q id) (d q id) e) }
first_of_both live test c d (Some x) (Some y) f g = by (is_gt (missing_cmp x y)) refl
  where
    by : (b : Bool) → is_gt (missing_cmp x y) ≡ b → IsFirst live test (λ q id. c q id || d q id) (cond b (Some y) (Some x))
    by true e =
        let low : is_gt (missing_cmp y x) ≡ false = ap is_gt (missing_cmp-total.antisymm y x) ∙ turned (missing_cmp x y) e in
        record { sound = g.sound; first = λ q id m k. ⊎_elim (λ h. up_to_further y x (key_of q, id) low (f.first q id m h)) (λ h. g.first q id m h) (or_is (c q id) (d q id) k) }
      where
        turned : (s : Ordering) → is_gt s ≡ true → is_gt (ordering_reverse s) ≡ false
        turned Less a = absurd (let wrong = a in cc)
        turned Equal a = absurd (let wrong = a in cc)
        turned Greater a = refl
    by false e = record { sound = f.sound; first = λ q id m k. ⊎_elim (λ h. f.first q id m h) (λ h. up_to_further x y (key_of q, id) e (g.first q id m h)) (or_is (c q id) (d q id) k) }
