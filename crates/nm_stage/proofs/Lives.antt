-- What a live list keeps as projects come and go.
use Rattle.std.proofs.Common.{◌≡◌, ◌∙◌, ℕ, ◌<◌, ◌≤◌, List, [], ◌∷◌, ◌++◌, length, Bool, true, false, not, cond, nat_lt, nat_eq, ◌==◌, Ordering, nat_cmp, append_assoc, refl, sym, ap, subst, arith}
use Rattle.std.proofs.lemmas.Bool.Decides.{nat_tests}
use Rattle.std.proofs.lemmas.Grind.{flat_map-append}
use Rattle.std.proofs.lemmas.List.Elements.{All-append, All-cons, All-filter, All-from_recursion}
use Rattle.std.proofs.lemmas.List.Kept.{IsStrictlySortedBy-filter}
use Rattle.std.proofs.lemmas.List.Sorted.{IsPermutation-append_comm, IsPermutation-append_left}
use Rattle.std.proofs.lemmas.Map.Keys.{IsDistinct-IsPermutation}
use Rattle.std.proofs.lemmas.Cmp.{nat_cmp_total}
use Rattle.std.specs.BTreeSet.{replace_key}
use Rattle.std.specs.Cmp.{ranked, nat_cmp_is}
use Rattle.std.specs.List.{AllByRecursion, IsDistinct, filter}
use Rattle.std.specs.List.Sorted.{IsStrictlySortedBy}
use Rattle.std.specs.Ordering.{match_ordering}
use Rattle.std.specs.declared.cmp.Ordering.TheVariants.{Less, Equal, Greater}
use Rattle.nm_ident.proofs.Rising.{all_append, all_weaker}
use Rattle.nm_stage.specs.Live.{AreApart, CanJoin, IsLive, filing_cmp, ids_of, with_project, without_filing}
use Rattle.nm_stage.specs.Project.{PlainProject}

abbrev pub before : ℕ → PlainProject → Bool
before filing one = nat_lt one.filing filing

abbrev pub after : ℕ → PlainProject → Bool
after filing one = nat_lt filing one.filing

abbrev pub other : ℕ → PlainProject → Bool
other filing one = not (one.filing == filing)

above : (x y : PlainProject) → filing_cmp x y ≡ Less → x.filing < y.filing
above x y e = ranked x.filing y.filing Less (sym e)

not_less : (m n : ℕ) → n ≤ m → nat_lt m n ≡ false
not_less m n h = grind (arith, nat_tests)

is_less : (m n : ℕ) → m < n → nat_lt m n ≡ true
is_less m n h = grind (arith, nat_tests)

is_other : (m n : ℕ) → (m ≡ n → ⊥) → not (m == n) ≡ true
is_other m n h = grind (arith, nat_tests)

pub is_same : (m n : ℕ) → m ≡ n → not (m == n) ≡ false
is_same m n h = grind (arith, nat_tests)

-- behind a project that is not below, all are above
pub record IsBehind (filing : ℕ) (xs : List PlainProject) : Type 0 where
  pub none_before : filter (before filing) xs ≡ []
  pub all_after : filter (after filing) xs ≡ xs
  pub all_other : filter (other filing) xs ≡ xs

behind : (filing : ℕ) (xs : List PlainProject) → AllByRecursion (λ y. filing < y.filing) xs → IsBehind filing xs
behind filing [] a = record { none_before = refl; all_after = refl; all_other = refl }
behind filing (y ∷ ys) a =
    let others = behind filing ys a.1 in
    let less : filing < y.filing = a.0 in
    record {
      none_before = (λ i. cond (not_less y.filing filing (omega arith) i) (y ∷ filter (before filing) ys) (filter (before filing) ys)) ∙ others.none_before;
      all_after = (λ i. cond (is_less filing y.filing less i) (y ∷ filter (after filing) ys) (filter (after filing) ys)) ∙ ap (λ l. y ∷ l) others.all_after;
      all_other = (λ i. cond (is_other y.filing filing (λ e. omega (arith, e)) i) (y ∷ filter (other filing) ys) (filter (other filing) ys)) ∙ ap (λ l. y ∷ l) others.all_other;
    }

-- all that follow a project are above a number that it is not below
all_above : (filing : ℕ) (x : PlainProject) (xs : List PlainProject) → filing ≤ x.filing → AllByRecursion (λ y. filing_cmp x y ≡ Less) xs → AllByRecursion (λ y. filing < y.filing) xs
all_above filing x xs h = all_weaker (λ y. filing_cmp x y ≡ Less) (λ y. filing < y.filing) (λ y e. omega (arith, above x y e)) xs

-- the tests at one project
pub tests_before : (filing : ℕ) (x : PlainProject) (xs : List PlainProject) → x.filing < filing
    → (filter (before filing) (x ∷ xs) ≡ x ∷ filter (before filing) xs) × (filter (after filing) (x ∷ xs) ≡ filter (after filing) xs) × (filter (other filing) (x ∷ xs) ≡ x ∷ filter (other filing) xs)
tests_before filing x xs h = (
  (λ i. cond (is_less x.filing filing h i) (x ∷ filter (before filing) xs) (filter (before filing) xs)),
  (λ i. cond (not_less filing x.filing (omega arith) i) (x ∷ filter (after filing) xs) (filter (after filing) xs)),
  (λ i. cond (is_other x.filing filing (λ e. omega (arith, e)) i) (x ∷ filter (other filing) xs) (filter (other filing) xs)),
)

pub tests_at : (filing : ℕ) (x : PlainProject) (xs : List PlainProject) → filing ≡ x.filing
    → (filter (before filing) (x ∷ xs) ≡ filter (before filing) xs) × (filter (after filing) (x ∷ xs) ≡ filter (after filing) xs) × (filter (other filing) (x ∷ xs) ≡ filter (other filing) xs)
tests_at filing x xs h = (
  (λ i. cond (not_less x.filing filing (omega arith) i) (x ∷ filter (before filing) xs) (filter (before filing) xs)),
  (λ i. cond (not_less filing x.filing (omega arith) i) (x ∷ filter (after filing) xs) (filter (after filing) xs)),
  (λ i. cond (is_same x.filing filing (sym h) i) (x ∷ filter (other filing) xs) (filter (other filing) xs)),
)

module _ (filing : ℕ) (x : PlainProject) (xs : List PlainProject) (a : AllByRecursion (λ y. filing_cmp x y ≡ Less) xs) where
  -- where the first is above the number
  pub first_above : filing < x.filing → IsBehind filing (x ∷ xs)
  first_above h = behind filing (x ∷ xs) (h, all_above filing x xs (omega arith) a)

  pub first_at : filing ≡ x.filing → IsBehind filing xs
  first_at h = behind filing xs (all_above filing x xs (omega arith) a)

pub without-split : (filing : ℕ) (xs : List PlainProject) → IsStrictlySortedBy filing_cmp xs → filter (before filing) xs ++ filter (after filing) xs ≡ without_filing filing xs
unfolding IsStrictlySortedBy
without-split filing [] s = refl
without-split filing (x ∷ xs) s = by (without-split filing xs s.1) (nat_cmp filing x.filing) refl
  where
    by : filter (before filing) xs ++ filter (after filing) xs ≡ filter (other filing) xs → (r : Ordering) → nat_cmp filing x.filing ≡ r
        → filter (before filing) (x ∷ xs) ++ filter (after filing) (x ∷ xs) ≡ filter (other filing) (x ∷ xs)
    by h Less e =
        let all = first_above filing x xs s.0 (ranked filing x.filing Less (sym e)) in
        (λ i. all.none_before i ++ all.all_after i) ∙ sym all.all_other
    by h Equal e =
        let at = tests_at filing x xs (ranked filing x.filing Equal (sym e)) in
        (λ i. at.0 i ++ at.1 i) ∙ h ∙ sym at.2
    by h Greater e =
        let at = tests_before filing x xs (ranked filing x.filing Greater (sym e)) in
        (λ i. at.0 i ++ at.1 i) ∙ ap (λ l. x ∷ l) h ∙ sym at.2

pub with-split : (project : PlainProject) (xs : List PlainProject) → IsStrictlySortedBy filing_cmp xs
    → filter (before project.filing) xs ++ project ∷ filter (after project.filing) xs ≡ with_project project xs
unfolding IsStrictlySortedBy
with-split project [] s = refl
with-split project (x ∷ xs) s = by (with-split project xs s.1) (nat_cmp project.filing x.filing) refl
  where
    by : filter (before project.filing) xs ++ project ∷ filter (after project.filing) xs ≡ with_project project xs → (r : Ordering) → nat_cmp project.filing x.filing ≡ r
        → filter (before project.filing) (x ∷ xs) ++ project ∷ filter (after project.filing) (x ∷ xs)
        ≡ match_ordering r (project ∷ x ∷ xs) (project ∷ xs) (x ∷ replace_key filing_cmp xs project)
    by h Less e =
        let all = first_above project.filing x xs s.0 (ranked project.filing x.filing Less (sym e)) in
        λ i. all.none_before i ++ project ∷ all.all_after i
    by h Equal e =
        let same = ranked project.filing x.filing Equal (sym e) in
        let at = tests_at project.filing x xs same in
        let all = first_at project.filing x xs s.0 same in
        (λ i. at.0 i ++ project ∷ at.1 i) ∙ (λ i. all.none_before i ++ project ∷ all.all_after i)
    by h Greater e =
        let at = tests_before project.filing x xs (ranked project.filing x.filing Greater (sym e)) in
        (λ i. at.0 i ++ project ∷ at.1 i) ∙ ap (λ l. x ∷ l) h

-- ---- ids that stand apart

abbrev pub Apart : List ℕ → List ℕ → Type 0
Apart xs ys = AllByRecursion (λ x. AllByRecursion (λ y. nat_eq x y ≡ false) ys) xs

pub all_front : (P : ℕ → Type 0) (xs ys : List ℕ) → AllByRecursion P (xs ++ ys) → AllByRecursion P xs
all_front P [] ys a = tt
all_front P (x ∷ xs) ys a = (a.0, all_front P xs ys a.1)

pub all_back : (P : ℕ → Type 0) (xs ys : List ℕ) → AllByRecursion P (xs ++ ys) → AllByRecursion P ys
all_back P [] ys a = a
all_back P (x ∷ xs) ys a = all_back P xs ys a.1

pub apart_front : (xs ys : List ℕ) → AreApart (xs ++ ys) → AreApart xs
unfolding IsDistinct
apart_front [] ys d = tt
apart_front (x ∷ xs) ys d = (all_front (λ y. nat_eq x y ≡ false) xs ys d.0, apart_front xs ys d.1)

pub apart_back : (xs ys : List ℕ) → AreApart (xs ++ ys) → AreApart ys
unfolding IsDistinct
apart_back [] ys d = d
apart_back (x ∷ xs) ys d = apart_back xs ys d.1

pub apart_between : (xs ys : List ℕ) → AreApart (xs ++ ys) → Apart xs ys
unfolding IsDistinct
apart_between [] ys d = tt
apart_between (x ∷ xs) ys d = (all_back (λ y. nat_eq x y ≡ false) xs ys d.0, apart_between xs ys d.1)

pub apart_append : (xs ys : List ℕ) → AreApart xs → AreApart ys → Apart xs ys → AreApart (xs ++ ys)
unfolding IsDistinct
apart_append [] ys a b c = b
apart_append (x ∷ xs) ys a b c = (all_append (λ y. nat_eq x y ≡ false) xs ys a.0 c.0, apart_append xs ys a.1 b c.1)

-- what holds of all ids holds of those of some projects
all_of_some : (P : ℕ → Type 0) (test : PlainProject → Bool) (xs : List PlainProject) → AllByRecursion P (ids_of xs) → AllByRecursion P (ids_of (filter test xs))
all_of_some P test [] a = tt
all_of_some P test (x ∷ xs) a = by (all_of_some P test xs (all_back P x.lineage (ids_of xs) a)) (test x)
  where
    by : AllByRecursion P (ids_of (filter test xs)) → (b : Bool) → AllByRecursion P (ids_of (cond b (x ∷ filter test xs) (filter test xs)))
    by h true = all_append P x.lineage (ids_of (filter test xs)) (all_front P x.lineage (ids_of xs) a) h
    by h false = h

pub apart-filter : (test : PlainProject → Bool) (xs : List PlainProject) → AreApart (ids_of xs) → AreApart (ids_of (filter test xs))
unfolding IsDistinct
apart-filter test [] d = d
apart-filter test (x ∷ xs) d = by (apart-filter test xs (apart_back x.lineage (ids_of xs) d)) (test x)
  where
    by : AreApart (ids_of (filter test xs)) → (b : Bool) → AreApart (ids_of (cond b (x ∷ filter test xs) (filter test xs)))
    by h true =
        apart_append x.lineage (ids_of (filter test xs)) (apart_front x.lineage (ids_of xs) d) h
        (all_weaker (λ y. AllByRecursion (λ z. nat_eq y z ≡ false) (ids_of xs)) (λ y. AllByRecursion (λ z. nat_eq y z ≡ false) (ids_of (filter test xs)))
        (λ y a. all_of_some (λ z. nat_eq y z ≡ false) test xs a) x.lineage (apart_between x.lineage (ids_of xs) d))
    by h false = h

pub flips : (x y : ℕ) → nat_eq x y ≡ nat_eq y x
flips x y = grind (arith, nat_tests)

-- a lineage among those of the others
pub apart-moved : (lineage : List ℕ) (xs ys : List PlainProject) (project : PlainProject) → project.lineage ≡ lineage
    → AreApart (lineage ++ ids_of (xs ++ ys)) → AreApart (ids_of (xs ++ project ∷ ys))
apart-moved lineage xs ys project e d =
    let front = ids_of xs in
    let back = ids_of ys in
    let from : lineage ++ ids_of (xs ++ ys) ≡ (lineage ++ front) ++ back = ap (λ l. lineage ++ l) (flat_map-append (λ p. p.lineage) xs ys) ∙ sym (append_assoc lineage front back) in
    let into : (front ++ lineage) ++ back ≡ ids_of (xs ++ project ∷ ys) =
    append_assoc front lineage back ∙ (λ i. front ++ (sym e i ++ back)) ∙ sym (flat_map-append (λ p. p.lineage) xs (project ∷ ys)) in
    subst AreApart into
    (IsDistinct-IsPermutation nat_eq flips ((lineage ++ front) ++ back) ((front ++ lineage) ++ back)
    (IsPermutation-append_left back (lineage ++ front) (front ++ lineage) (IsPermutation-append_comm lineage front))
    (subst AreApart from d))

-- ---- the lists that the calls make

pub empty-live : IsLive []
unfolding IsStrictlySortedBy IsDistinct
empty-live = record { rising = tt; lineages = All-from_recursion (λ (p : PlainProject). 0 < length p.lineage) [] tt; apart = tt }

pub without-live : (filing : ℕ) (live : List PlainProject) → IsLive live → IsLive (without_filing filing live)
without-live filing live l = record {
  rising = IsStrictlySortedBy-filter filing_cmp (other filing) live l.rising;
  lineages = All-filter (other filing) (λ p. 0 < length p.lineage) live l.lineages;
  apart = apart-filter (other filing) live l.apart;
}

all_kept : (P : PlainProject → Type 0) (test : PlainProject → Bool) → ((x : PlainProject) → test x ≡ true → P x) → (xs : List PlainProject) → AllByRecursion P (filter test xs)
all_kept P test f [] = tt
all_kept P test f (x ∷ xs) = by (all_kept P test f xs) (test x) refl
  where
    by : AllByRecursion P (filter test xs) → (b : Bool) → test x ≡ b → AllByRecursion P (cond b (x ∷ filter test xs) (filter test xs))
    by h true e = (f x e, h)
    by h false e = h

over : (x y : PlainProject) → filing_cmp x y ≡ Less → (ys : List PlainProject) → AllByRecursion (λ z. filing_cmp y z ≡ Less) ys → AllByRecursion (λ z. filing_cmp x z ≡ Less) ys
over x y e = all_weaker (λ z. filing_cmp y z ≡ Less) (λ z. filing_cmp x z ≡ Less) (λ z f. nat_cmp_total.trans x.filing y.filing z.filing e f)

rises_around : (project : PlainProject) (xs ys : List PlainProject) → IsStrictlySortedBy filing_cmp xs → AllByRecursion (λ x. filing_cmp x project ≡ Less) xs
    → IsStrictlySortedBy filing_cmp ys → AllByRecursion (λ y. filing_cmp project y ≡ Less) ys → IsStrictlySortedBy filing_cmp (xs ++ project ∷ ys)
unfolding IsStrictlySortedBy
rises_around project [] ys s a t b = (b, t)
rises_around project (x ∷ xs) ys s a t b =
    (all_append (λ z. filing_cmp x z ≡ Less) xs (project ∷ ys) s.0 (a.0, over x project a.0 ys b), rises_around project xs ys s.1 a.1 t b)

lower : (m n : ℕ) → nat_lt m n ≡ true → nat_cmp m n ≡ Less
lower m n h = sym (nat_cmp_is m n Less (grind (arith, nat_tests)))

pub with-live : (project : PlainProject) (live : List PlainProject) → IsLive live → CanJoin project live → IsLive (with_project project live)
with-live project live l joins =
    let front = filter (before project.filing) live in
    let back = filter (after project.filing) live in
    subst IsLive (with-split project live l.rising) (record {
      rising = rises_around project front back
          (IsStrictlySortedBy-filter filing_cmp (before project.filing) live l.rising)
          (all_kept (λ x. filing_cmp x project ≡ Less) (before project.filing) (λ x e. lower x.filing project.filing e) live)
          (IsStrictlySortedBy-filter filing_cmp (after project.filing) live l.rising)
          (all_kept (λ x. filing_cmp project x ≡ Less) (after project.filing) (λ x e. lower project.filing x.filing e) live);
      lineages = All-append (λ p. 0 < length p.lineage) front (project ∷ back)
          (All-filter (before project.filing) (λ p. 0 < length p.lineage) live l.lineages)
          (All-cons (λ (p : PlainProject). 0 < length p.lineage) project back joins.some (All-filter (after project.filing) (λ p. 0 < length p.lineage) live l.lineages));
      apart = apart-moved project.lineage front back project refl
          (subst (λ others. AreApart (project.lineage ++ ids_of others)) (sym (without-split project.filing live l.rising)) joins.apart);
    })
