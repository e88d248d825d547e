-- Live projects by their filing numbers and their ids.
use Rattle.std.proofs.Common.{◌≡◌, ◌∙◌, ℕ, ◌<◌, List, [], ◌∷◌, ◌++◌, length, Bool, true, false, ◌||◌, not, ◌==◌, nat_eq, nat_lt, cond, slice_index, Option, None, Some, Ordering, nat_cmp, refl, sym, ap, subst, arith}
use Rattle.std.proofs.lemmas.Bool.Decides.{nat_tests}
use Rattle.std.proofs.lemmas.List.Elements.{All-head, All-tail, filter-append}
use Rattle.std.proofs.lemmas.List.Folds.{find-append}
use Rattle.std.proofs.lemmas.List.Kept.{IsStrictlySortedBy-filter}
use Rattle.std.specs.Cmp.{ranked, unsigned_ties}
use Rattle.std.specs.List.{All, AllByRecursion, filter, find}
use Rattle.std.specs.List.Sorted.{IsStrictlySortedBy}
use Rattle.std.specs.Option.{is_some, option_or}
use Rattle.std.specs.Ordering.{is_eq, is_gt, is_lt}
use Rattle.std.specs.declared.cmp.Ordering.TheVariants.{Less, Equal, Greater}
use Rattle.nm_blocks.specs.Items.{with_item, without}
use Rattle.nm_ident.proofs.Rising.{all_weaker, same_answers}
use Rattle.nm_stage.proofs.Found.{all_so, filter_alike, find-filter, find-filter_all, find_tested, found_all, list_any-find}
use Rattle.nm_stage.proofs.Joins.{held_by_none}
use Rattle.nm_stage.proofs.Lists.{numbers_laws, numbers_same}
use Rattle.nm_stage.proofs.Lives.{after, apart_back, apart_between, before, flips, other, with-split, without-split}
use Rattle.nm_stage.proofs.Sorting.{both}
use Rattle.nm_stage.specs.Live.{AreApart, CanJoin, filed_as, filing_cmp, holder_of, holds, ids_of, project_of, with_project, without_filing}
use Rattle.nm_stage.specs.Project.{PlainProject, has_id, id_of}

-- ---- the searches by filing number

level_is : (m n : ℕ) → is_eq (nat_cmp m n) ≡ (n == m)
level_is m n = sym (unsigned_ties m n) ∙ flips m n

less_is : (m n : ℕ) → is_lt (nat_cmp m n) ≡ nat_lt m n
less_is m n = by (nat_cmp m n) refl
  where
    by : (r : Ordering) → nat_cmp m n ≡ r → is_lt r ≡ nat_lt m n
    by Less e = let h = ranked m n Less (sym e) in grind (arith, nat_tests)
    by Equal e = let h = ranked m n Equal (sym e) in grind (arith, nat_tests)
    by Greater e = let h = ranked m n Greater (sym e) in grind (arith, nat_tests)

greater_is : (m n : ℕ) → is_gt (nat_cmp m n) ≡ nat_lt n m
greater_is m n = by (nat_cmp m n) refl
  where
    by : (r : Ordering) → nat_cmp m n ≡ r → is_gt r ≡ nat_lt n m
    by Less e = let h = ranked m n Less (sym e) in grind (arith, nat_tests)
    by Equal e = let h = ranked m n Equal (sym e) in grind (arith, nat_tests)
    by Greater e = let h = ranked m n Greater (sym e) in grind (arith, nat_tests)

abbrev pub filing_of : PlainProject → ℕ
filing_of project = project.filing

pub without_is : (filing : ℕ) (live : List PlainProject) → without filing_of nat_cmp filing live ≡ without_filing filing live
without_is filing live = filter_alike (λ x. not (is_eq (nat_cmp filing x.filing))) (other filing) (λ x. ap not (level_is filing x.filing)) live

pub with_is : (project : PlainProject) (live : List PlainProject) → IsStrictlySortedBy filing_cmp live → with_item filing_of nat_cmp project live ≡ with_project project live
with_is project live s =
    (λ i. filter_alike (λ x. is_gt (nat_cmp project.filing x.filing)) (before project.filing) (λ x. greater_is project.filing x.filing) live i
    ++ project ∷ filter_alike (λ x. is_lt (nat_cmp project.filing x.filing)) (after project.filing) (λ x. less_is project.filing x.filing) live i)
    ∙ with-split project live s

-- ---- one project has a filing number

pub differ : (m n : ℕ) → m < n → (m == n) ≡ false
differ m n h = grind (arith, nat_tests)

pub above : (x y : PlainProject) → filing_cmp x y ≡ Less → x.filing < y.filing
above x y e = ranked x.filing y.filing Less (sym e)

-- a project that is found is the one of its filing number
pub filed_own : (test : PlainProject → Bool) (p : PlainProject) (live : List PlainProject) → IsStrictlySortedBy filing_cmp live → find test live ≡ Some p → filed_as p.filing live ≡ Some p
unfolding IsStrictlySortedBy
filed_own test p [] s e = absurd (let wrong = e in cc)
filed_own test p (x ∷ xs) s e = by (λ f. filed_own test p xs s.1 f) (test x) e
  where
    by : (find test xs ≡ Some p → filed_as p.filing xs ≡ Some p) → (t : Bool) → cond t (Some x) (find test xs) ≡ Some p → filed_as p.filing (x ∷ xs) ≡ Some p
    by later true f =
        let same : x ≡ p = cc in
        subst (λ (q : PlainProject). filed_as q.filing (x ∷ xs) ≡ Some q) same (ap (λ b. cond b (Some x) (filed_as x.filing xs)) (numbers_laws.refl x.filing))
    by later false f =
        let less : x.filing < p.filing = above x p (found_all (λ y. filing_cmp x y ≡ Less) test xs p f s.0) in
        ap (λ b. cond b (Some x) (filed_as p.filing xs)) (differ x.filing p.filing less) ∙ later f

pub one_at_filing : (filing : ℕ) (old : PlainProject) (live : List PlainProject) → IsStrictlySortedBy filing_cmp live → filed_as filing live ≡ Some old → AllByRecursion (λ x. x.filing ≡ filing → x ≡ old) live
unfolding IsStrictlySortedBy
one_at_filing filing old [] s e = tt
one_at_filing filing old (x ∷ xs) s e = by (λ f. one_at_filing filing old xs s.1 f) (x.filing == filing) refl e
  where
    by : (filed_as filing xs ≡ Some old → AllByRecursion (λ y. y.filing ≡ filing → y ≡ old) xs) → (t : Bool) → (x.filing == filing) ≡ t → cond t (Some x) (filed_as filing xs) ≡ Some old
        → AllByRecursion (λ y. y.filing ≡ filing → y ≡ old) (x ∷ xs)
    by later true g f =
        let same : x ≡ old = cc in
        let at : x.filing ≡ filing = numbers_same x.filing filing g in
        ((λ e. same), all_weaker (λ y. filing_cmp x y ≡ Less) (λ y. y.filing ≡ filing → y ≡ old) (λ y less e. absurd (let under = above x y less in omega (arith, under, at, e))) xs s.0)
    by later false g f =
        ((λ e. absurd (let wrong : false ≡ true = sym g ∙ ap (λ n. n == filing) e ∙ numbers_laws.refl filing in cc)), later f)

pub filed_has : (filing : ℕ) (live : List PlainProject) (old : PlainProject) → filed_as filing live ≡ Some old → old.filing ≡ filing
filed_has filing live old e = numbers_same old.filing filing (find_tested (λ x. x.filing == filing) live old e)

-- ---- a list without a project, and then with it again

pub without_none : (filing : ℕ) (live : List PlainProject) → filed_as filing live ≡ None → without_filing filing live ≡ live
without_none filing [] e = refl
without_none filing (x ∷ xs) e = by (without_none filing xs) (x.filing == filing) e
  where
    by : (filed_as filing xs ≡ None → without_filing filing xs ≡ xs) → (b : Bool) → cond b (Some x) (filed_as filing xs) ≡ None → cond (not b) (x ∷ without_filing filing xs) (without_filing filing xs) ≡ x ∷ xs
    by later true f = absurd (let wrong = f in cc)
    by later false f = ap (λ l. x ∷ l) (later f)

filter_narrow : (p q : PlainProject → Bool) → ((x : PlainProject) → p x ≡ true → q x ≡ true) → (xs : List PlainProject) → filter p (filter q xs) ≡ filter p xs
filter_narrow p q f [] = refl
filter_narrow p q f (x ∷ xs) = by (filter_narrow p q f xs) (q x) refl (p x) refl
  where
    by : filter p (filter q xs) ≡ filter p xs → (b : Bool) → q x ≡ b → (a : Bool) → p x ≡ a → filter p (cond b (x ∷ filter q xs) (filter q xs)) ≡ cond a (x ∷ filter p xs) (filter p xs)
    by h true e a g = ap (λ c. cond c (x ∷ filter p (filter q xs)) (filter p (filter q xs))) g ∙ ap (λ l. cond a (x ∷ l) l) h
    by h false e true g = absurd (let wrong : false ≡ true = sym e ∙ f x g in cc)
    by h false e false g = h

is_under : (m n : ℕ) → nat_lt m n ≡ true → not (m == n) ≡ true
is_under m n e = grind (arith, nat_tests)

is_over : (m n : ℕ) → nat_lt n m ≡ true → not (m == n) ≡ true
is_over m n e = grind (arith, nat_tests)

filter_wide : (p q : PlainProject → Bool) → ((x : PlainProject) → q x ≡ true → p x ≡ true) → (xs : List PlainProject) → filter p (filter q xs) ≡ filter q xs
filter_wide p q f [] = refl
filter_wide p q f (x ∷ xs) = by (filter_wide p q f xs) (q x) refl
  where
    by : filter p (filter q xs) ≡ filter q xs → (b : Bool) → q x ≡ b → filter p (cond b (x ∷ filter q xs) (filter q xs)) ≡ cond b (x ∷ filter q xs) (filter q xs)
    by h true e = ap (λ b. cond b (x ∷ filter p (filter q xs)) (filter p (filter q xs))) (f x e) ∙ ap (λ l. x ∷ l) h
    by h false e = h

-- a change of one project leaves the others
pub with_leaves : (project : PlainProject) (live : List PlainProject) → IsStrictlySortedBy filing_cmp live → without_filing project.filing (with_project project live) ≡ without_filing project.filing live
with_leaves project live s =
    let front = filter (before project.filing) live in
    let back = filter (after project.filing) live in
    ap (without_filing project.filing) (sym (with-split project live s))
    ∙ filter-append (other project.filing) front (project ∷ back)
    ∙ ap (λ b. without_filing project.filing front ++ cond (not b) (project ∷ without_filing project.filing back) (without_filing project.filing back)) (numbers_laws.refl project.filing)
    ∙ (λ i. filter_wide (other project.filing) (before project.filing) (λ x e. is_under x.filing project.filing e) live i
    ++ filter_wide (other project.filing) (after project.filing) (λ x e. is_over x.filing project.filing e) live i)
    ∙ without-split project.filing live s

pub without_leaves : (filing : ℕ) (live : List PlainProject) → without_filing filing (without_filing filing live) ≡ without_filing filing live
without_leaves filing live = filter_wide (other filing) (other filing) (λ x e. e) live

with_others : (project : PlainProject) (live : List PlainProject) → IsStrictlySortedBy filing_cmp live → with_project project (without_filing project.filing live) ≡ with_project project live
with_others project live s =
    let others = without_filing project.filing live in
    sym (with-split project others (IsStrictlySortedBy-filter filing_cmp (other project.filing) live s))
    ∙ (λ i. filter_narrow (before project.filing) (other project.filing) (λ x e. is_under x.filing project.filing e) live i
    ++ project ∷ filter_narrow (after project.filing) (other project.filing) (λ x e. is_over x.filing project.filing e) live i)
    ∙ with-split project live s

none_filed : (filing : ℕ) (live : List PlainProject) → filed_as filing (without_filing filing live) ≡ None
none_filed filing live = find-filter (λ x. x.filing == filing) (other filing) false (λ x e. ap not e) live

-- what `with` makes of the list without the project
module _ (project : PlainProject) (filing : ℕ) (live others : List PlainProject) (same : filing ≡ project.filing) (made : others ≡ without_filing filing live) where
  others_are : others ≡ without_filing project.filing live
  others_are = made ∙ ap (λ n. without_filing n live) same

  pub joins_others : CanJoin project live → CanJoin project others
  joins_others joins =
      let again : without_filing project.filing (without_filing project.filing live) ≡ without_filing project.filing live = without_none project.filing (without_filing project.filing live) (none_filed project.filing live) in
      subst (CanJoin project) (sym others_are) (record { some = joins.some; apart = subst (λ (l : List PlainProject). AreApart (project.lineage ++ ids_of l)) (sym again) joins.apart })

  pub new_to_others : filed_as project.filing others ≡ None
  new_to_others = ap (filed_as project.filing) others_are ∙ none_filed project.filing live

  pub with_others_is : IsStrictlySortedBy filing_cmp live → with_project project others ≡ with_project project live
  with_others_is s = ap (with_project project) others_are ∙ with_others project live s

-- ---- one project passes a test

-- all that pass the test have one filing number
abbrev pub IsSingle : (PlainProject → Bool) → List PlainProject → Type 0
IsSingle t live = AllByRecursion (λ x. AllByRecursion (λ y. t x ≡ true → t y ≡ true → x.filing ≡ y.filing) live) live

-- what a test finds without a project
pub found_without : (t : PlainProject → Bool) (filing : ℕ) (old : PlainProject) (live : List PlainProject) → IsStrictlySortedBy filing_cmp live → IsSingle t live → filed_as filing live ≡ Some old
    → find t (without_filing filing live) ≡ cond (t old) None (find t live)
found_without t filing old live s single e =
    find-filter_all t (other filing) (not (t old)) live
    (both (λ x. x.filing ≡ filing → x ≡ old) (λ y. t old ≡ true → t y ≡ true → old.filing ≡ y.filing) (λ x. t x ≡ true → other filing x ≡ not (t old))
    (λ x same one passes. ap not (same_answers (x.filing == filing) (t old)
    (λ g. ap t (sym (same (numbers_same x.filing filing g))) ∙ passes)
    (λ g. ap (λ n. n == filing) (sym (one g passes) ∙ filed_has filing live old e) ∙ numbers_laws.refl filing)))
    live (one_at_filing filing old live s e)
    (found_all (λ x. AllByRecursion (λ y. t x ≡ true → t y ≡ true → x.filing ≡ y.filing) live) (λ x. x.filing == filing) live old e single))
    ∙ turned (t old) (find t live)
  where
    turned : (b : Bool) (found : Option PlainProject) → cond (not b) found None ≡ cond b None found
    turned true found = refl
    turned false found = refl

-- what it finds with a new one
pub found_with : (t : PlainProject → Bool) (p : PlainProject) (live : List PlainProject) → IsStrictlySortedBy filing_cmp live → filed_as p.filing live ≡ None → (t p ≡ true → find t live ≡ None)
    → find t (with_project p live) ≡ cond (t p) (Some p) (find t live)
found_with t p live s new none =
    let front = filter (before p.filing) live in
    let back = filter (after p.filing) live in
    let parts : find t live ≡ option_or (find t front) (find t back) =
    ap (find t) (sym (without-split p.filing live s ∙ without_none p.filing live new)) ∙ find-append t front back in
    ap (find t) (sym (with-split p live s)) ∙ find-append t front (p ∷ back) ∙ by (find t front) (find t back) (find t live) parts (t p) none
  where
    by : (first last whole : Option PlainProject) → whole ≡ option_or first last → (b : Bool) → (b ≡ true → whole ≡ None) → option_or first (cond b (Some p) last) ≡ cond b (Some p) whole
    by None last whole e true f = refl
    by (Some x) last whole e true f = absurd (let wrong = sym e ∙ f refl in cc)
    by first last whole e false f = sym e

-- ---- one project has an id

at_id : (P : ℕ → Type 0) (id : ℕ) (ids : List ℕ) → has_id ids id ≡ true → AllByRecursion P ids → P id
at_id P id [] e a = absurd (let wrong = e in cc)
at_id P id (x ∷ xs) e a = by (λ f. at_id P id xs f a.1) (id == x) refl e
  where
    by : (has_id xs id ≡ true → P id) → (b : Bool) → (id == x) ≡ b → (b || has_id xs id) ≡ true → P id
    by later true g f = subst P (sym (numbers_same id x g)) a.0
    by later false g f = later f

-- an id of a lineage stands in none of those behind it
pub elsewhere : (x : PlainProject) (xs : List PlainProject) (id : ℕ) → AreApart (x.lineage ++ ids_of xs) → has_id x.lineage id ≡ true → holds xs id ≡ false
elsewhere x xs id d e = held_by_none id xs (at_id (λ i. AllByRecursion (λ y. nat_eq i y ≡ false) (ids_of xs)) id x.lineage e (apart_between x.lineage (ids_of xs) d))

none_holds : (id : ℕ) (live : List PlainProject) → holds live id ≡ false → AllByRecursion (λ x. has_id x.lineage id ≡ false) live
none_holds id [] e = tt
none_holds id (x ∷ xs) e = by (has_id x.lineage id) refl (none_holds id xs) e
  where
    by : (b : Bool) → has_id x.lineage id ≡ b → (holds xs id ≡ false → AllByRecursion (λ y. has_id y.lineage id ≡ false) xs) → (b || holds xs id) ≡ false → AllByRecursion (λ y. has_id y.lineage id ≡ false) (x ∷ xs)
    by true g later f = absurd (let wrong = f in cc)
    by false g later f = (g, later f)

-- what holds of all where something is so
guarded : (P : PlainProject → Type 0) (c : Bool) (xs : List PlainProject) → (c ≡ true → AllByRecursion P xs) → AllByRecursion (λ y. c ≡ true → P y) xs
guarded P true xs f = all_weaker P (λ y. true ≡ true → P y) (λ y p e. p) xs (f refl)
guarded P false xs f = all_so (λ y. false ≡ true → P y) (λ y e. absurd (let wrong = e in cc)) xs

pub single_holder : (id : ℕ) (live : List PlainProject) → AreApart (ids_of live) → IsSingle (λ x. has_id x.lineage id) live
single_holder id [] d = tt
single_holder id (x ∷ xs) d =
    let behind : AllByRecursion (λ y. has_id x.lineage id ≡ true → has_id y.lineage id ≡ false) xs =
    guarded (λ y. has_id y.lineage id ≡ false) (has_id x.lineage id) xs (λ e. none_holds id xs (elsewhere x xs id d e)) in (
      (
        (λ e f. refl),
        all_weaker (λ y. has_id x.lineage id ≡ true → has_id y.lineage id ≡ false) (λ y. has_id x.lineage id ≡ true → has_id y.lineage id ≡ true → x.filing ≡ y.filing)
            (λ y no e f. absurd (let wrong : false ≡ true = sym (no e) ∙ f in cc)) xs behind,
      ),
      both (λ y. has_id x.lineage id ≡ true → has_id y.lineage id ≡ false) (λ y. AllByRecursion (λ z. has_id y.lineage id ≡ true → has_id z.lineage id ≡ true → y.filing ≡ z.filing) xs)
          (λ y. AllByRecursion (λ z. has_id y.lineage id ≡ true → has_id z.lineage id ≡ true → y.filing ≡ z.filing) (x ∷ xs))
          (λ y no a. ((λ f e. absurd (let wrong : false ≡ true = sym (no e) ∙ f in cc)), a)) xs behind (single_holder id xs (apart_back x.lineage (ids_of xs) d)),
    )

-- ---- the project that has an id first

abbrev pub first_only : ℕ → Option PlainProject → Option PlainProject
first_only id None = None
first_only id (Some project) = cond (id_of project == id) (Some project) None

pub first_is : (id : ℕ) (project : PlainProject) → id_of project ≡ id → Some project ≡ first_only id (Some project)
first_is id project e = ap (λ b. cond b (Some project) None) (sym (ap (λ n. n == id) e ∙ numbers_laws.refl id))

unlike : (m n : ℕ) → (m ≡ n → ⊥) → (m == n) ≡ false
unlike m n e = grind (arith, nat_tests)

pub first_is_not : (id : ℕ) (project : PlainProject) → (id_of project ≡ id → ⊥) → None ≡ first_only id (Some project)
first_is_not id project e = ap (λ b. cond b (Some project) None) (sym (unlike (id_of project) id e))

first_in : (id : ℕ) (ids : List ℕ) → 0 < length ids → (slice_index ids 0 == id) ≡ true → has_id ids id ≡ true
first_in id [] some e = absurd (omega (arith, some))
first_in id (x ∷ xs) some e = ap (λ b. b || has_id xs id) (flips id x ∙ e)

pub unheld : (id : ℕ) (live : List PlainProject) → holds live id ≡ false → holder_of id live ≡ None
unheld id live e = by (holder_of id live) (list_any-find (λ x. has_id x.lineage id) live ∙ e)
  where
    by : (found : Option PlainProject) → is_some found ≡ false → found ≡ None
    by None f = refl
    by (Some x) f = absurd (let wrong = f in cc)

pub project_is : (id : ℕ) (live : List PlainProject) → All (λ project. 0 < length project.lineage) live → AreApart (ids_of live) → project_of id live ≡ first_only id (holder_of id live)
project_is id [] some d = refl
project_is id (x ∷ xs) some d =
    by (id_of x == id) refl (has_id x.lineage id) refl (project_is id xs (All-tail (λ (project : PlainProject). 0 < length project.lineage) x xs some) (apart_back x.lineage (ids_of xs) d))
  where
    by : (a : Bool) → (id_of x == id) ≡ a → (b : Bool) → has_id x.lineage id ≡ b → project_of id xs ≡ first_only id (holder_of id xs)
        → cond a (Some x) (project_of id xs) ≡ first_only id (cond b (Some x) (holder_of id xs))
    by true e true f h = ap (λ b. cond b (Some x) None) (sym e)
    by true e false f h =
        absurd (let wrong : false ≡ true = sym f ∙ first_in id x.lineage (All-head (λ (project : PlainProject). 0 < length project.lineage) x xs some) e in cc)
    by false e true f h = h ∙ ap (first_only id) (unheld id xs (elsewhere x xs id d f)) ∙ ap (λ b. cond b (Some x) None) (sym e)
    by false e false f h = h

pub holds_is : (id : ℕ) (live : List PlainProject) → is_some (holder_of id live) ≡ holds live id
holds_is id live = list_any-find (λ x. has_id x.lineage id) live
