-- Two lists of live projects side by side, with a project and without it. The others may have other filing numbers.
use Rattle.std.proofs.Common.{◌≡◌, ◌≢◌, ◌∙◌, ℕ, ◌<◌, ◌==◌, List, [], ◌∷◌, ◌++◌, map, Bool, true, false, not, cond, Some, if◌then◌else◌, refl, sym, ap, subst, arith}
use Rattle.std.proofs.lemmas.Bool.{eqb-true}
use Rattle.std.proofs.lemmas.Bool.Decides.{nat_tests}
use Rattle.std.proofs.lemmas.List.{map-append}
use Rattle.std.proofs.lemmas.List.Elements.{filter-append}
use Rattle.std.proofs.lemmas.List.Folds.{find-append}
use Rattle.std.specs.Cmp.{nat_cmp_is, ranked}
use Rattle.std.specs.List.{AllByRecursion, filter, find}
use Rattle.std.specs.List.Sorted.{IsStrictlySortedBy}
use Rattle.std.specs.Option.{option_map, option_or}
use Rattle.std.specs.Ordering.{match_ordering}
use Rattle.std.specs.declared.cmp.Ordering.TheVariants.{Less, Equal, Greater}
use Rattle.nm_ident.proofs.Rising.{all_append, all_weaker}
use Rattle.nm_stage.specs.Live.{filing_cmp, project_of, with_project, without_filing}
use Rattle.nm_stage.specs.Project.{PlainProject, id_of}
use Rattle.nm_version.proofs.Filings.{all_filtered, all_replaced, of_found}

-- ---- tests on numbers

pub same_is : (a b : ℕ) → a ≡ b → (a == b) ≡ true
same_is a b e = grind (arith, nat_tests)

apart_is : (a b : ℕ) → a ≢ b → (a == b) ≡ false
apart_is a b n = by (a == b) refl
  where
    by : (r : Bool) → (a == b) ≡ r → (a == b) ≡ false
    by true e = absurd (n (eqb-true a b e))
    by false e = e

below_is : (a b : ℕ) → a < b → (b == a) ≡ false
below_is a b h = grind (arith, nat_tests)

-- ---- lists

-- what is changed and what is chosen do not touch
filter_changed : {X : Type 0} (test : X → Bool) (f : X → X) → ((x : X) → test (f x) ≡ test x) → (xs : List X) → filter test (map f xs) ≡ map f (filter test xs)
filter_changed test f same [] = refl
filter_changed test f same (x ∷ xs) =
    (λ i. cond (same x i) (f x ∷ filter_changed test f same xs i) (filter_changed test f same xs i)) ∙ by (test x)
  where
    by : (b : Bool) → cond b (f x ∷ map f (filter test xs)) (map f (filter test xs)) ≡ map f (cond b (x ∷ filter test xs) (filter test xs))
    by true = refl
    by false = refl

-- two choices, in either order
filter_twice : {X : Type 0} (p q : X → Bool) (xs : List X) → filter p (filter q xs) ≡ filter q (filter p xs)
filter_twice p q [] = refl
filter_twice p q (x ∷ xs) = by (filter_twice p q xs) (p x) refl (q x) refl
  where
    by : filter p (filter q xs) ≡ filter q (filter p xs) → (b : Bool) → p x ≡ b → (c : Bool) → q x ≡ c
        → filter p (cond (q x) (x ∷ filter q xs) (filter q xs)) ≡ filter q (cond (p x) (x ∷ filter p xs) (filter p xs))
    by others true e true f =
        (λ i. filter p (cond (f i) (x ∷ filter q xs) (filter q xs)))
        ∙ (λ i. cond (e i) (x ∷ others i) (others i))
        ∙ (λ i. cond (sym f i) (x ∷ filter q (filter p xs)) (filter q (filter p xs)))
        ∙ (λ i. filter q (cond (sym e i) (x ∷ filter p xs) (filter p xs)))
    by others true e false f =
        (λ i. filter p (cond (f i) (x ∷ filter q xs) (filter q xs)))
        ∙ others
        ∙ (λ i. cond (sym f i) (x ∷ filter q (filter p xs)) (filter q (filter p xs)))
        ∙ (λ i. filter q (cond (sym e i) (x ∷ filter p xs) (filter p xs)))
    by others false e true f =
        (λ i. filter p (cond (f i) (x ∷ filter q xs) (filter q xs)))
        ∙ (λ i. cond (e i) (x ∷ filter p (filter q xs)) (filter p (filter q xs)))
        ∙ others
        ∙ (λ i. filter q (cond (sym e i) (x ∷ filter p xs) (filter p xs)))
    by others false e false f =
        (λ i. filter p (cond (f i) (x ∷ filter q xs) (filter q xs)))
        ∙ others
        ∙ (λ i. filter q (cond (sym e i) (x ∷ filter p xs) (filter p xs)))

-- what passes a test is found whether or not others are left out
find_filtered : {X : Type 0} (test keep : X → Bool) (xs : List X) → AllByRecursion (λ x. keep x ≡ false → test x ≡ false) xs → find test (filter keep xs) ≡ find test xs
find_filtered test keep [] a = refl
find_filtered test keep (x ∷ xs) a = by (find_filtered test keep xs a.1) (keep x) refl
  where
    by : find test (filter keep xs) ≡ find test xs → (b : Bool) → keep x ≡ b → find test (cond (keep x) (x ∷ filter keep xs) (filter keep xs)) ≡ cond (test x) (Some x) (find test xs)
    by others true e = (λ i. find test (cond (e i) (x ∷ filter keep xs) (filter keep xs))) ∙ (λ i. cond (test x) (Some x) (others i))
    by others false e = (λ i. find test (cond (e i) (x ∷ filter keep xs) (filter keep xs))) ∙ others ∙ (λ i. cond (sym (a.0 e) i) (Some x) (find test xs))

not-false : (t : Bool) → not t ≡ false → t ≡ true
not-false true h = refl
not-false false h = absurd (let wrong = h in cc)

pub found_passes : {X : Type 0} (test : X → Bool) (xs : List X) (one : X) → find test xs ≡ Some one → test one ≡ true
found_passes test [] one e = absurd (let wrong = e in cc)
found_passes test (x ∷ xs) one e = by (found_passes test xs one) (test x) refl e
  where
    by : (find test xs ≡ Some one → test one ≡ true) → (b : Bool) → test x ≡ b → cond b (Some x) (find test xs) ≡ Some one → test one ≡ true
    by others true t f = let same : x ≡ one = cc in subst (λ y. test y ≡ true) same t
    by others false t f = others f

-- ---- a project in the place of the one of its filing number

put : PlainProject → PlainProject → PlainProject
put new one = if one.filing == new.filing then new else one

abbrev put_by : Bool → PlainProject → PlainProject → PlainProject
put_by same new one = if same then new else one

put_is : (new one : PlainProject) (same : Bool) → (one.filing == new.filing) ≡ same → put new one ≡ put_by same new one
unfolding put
put_is new one same e = ap (λ b. put_by b new one) e

put_filing : (new one : PlainProject) → (put new one).filing ≡ one.filing
put_filing new one = by (one.filing == new.filing) refl
  where
    by : (b : Bool) → (one.filing == new.filing) ≡ b → (put new one).filing ≡ one.filing
    by true e = ap (λ (p : PlainProject). p.filing) (put_is new one true e) ∙ sym (eqb-true one.filing new.filing e)
    by false e = ap (λ (p : PlainProject). p.filing) (put_is new one false e)

untouched : (new : PlainProject) (xs : List PlainProject) → AllByRecursion (λ one. new.filing < one.filing) xs → map (put new) xs ≡ xs
untouched new [] a = refl
untouched new (x ∷ xs) a = λ i. put_is new x false (below_is new.filing x.filing a.0) i ∷ untouched new xs a.1 i

with_step : (new old x : PlainProject) (xs : List PlainProject) (test : PlainProject → Bool) → AllByRecursion (λ y. filing_cmp x y ≡ Less) xs → new.filing ≡ old.filing
    → (find test xs ≡ Some old → with_project new xs ≡ map (put new) xs) → (b : Bool) → cond b (Some x) (find test xs) ≡ Some old
    → with_project new (x ∷ xs) ≡ map (put new) (x ∷ xs)
with_step new old x xs test above same others true f =
    let is : x ≡ old = cc in
    let number : new.filing ≡ x.filing = same ∙ ap (λ (p : PlainProject). p.filing) (sym is) in
    (λ i. match_ordering (sym (nat_cmp_is new.filing x.filing Equal number) i) (new ∷ x ∷ xs) (new ∷ xs) (x ∷ with_project new xs))
    ∙ (λ i. sym (put_is new x true (same_is x.filing new.filing (sym number))) i
    ∷ sym (untouched new xs (all_weaker (λ y. filing_cmp x y ≡ Less) (λ y. new.filing < y.filing) (λ y h. let less = ranked x.filing y.filing Less (sym h) in omega (arith, less)) xs above)) i)
with_step new old x xs test above same others false f =
    let less = ranked x.filing old.filing Less (sym (of_found (λ y. filing_cmp x y ≡ Less) test xs old above f)) in
    let below : x.filing < new.filing = omega (arith, less) in
    (λ i. match_ordering (sym (nat_cmp_is new.filing x.filing Greater below) i) (new ∷ x ∷ xs) (new ∷ xs) (x ∷ with_project new xs))
    ∙ (λ i. sym (put_is new x false (apart_is x.filing new.filing (λ e. omega (arith, e)))) i ∷ others f i)

-- in a list whose filing numbers rise, a project takes the place of one that is there
with_is_put : (new old : PlainProject) (test : PlainProject → Bool) (xs : List PlainProject) → IsStrictlySortedBy filing_cmp xs → find test xs ≡ Some old → new.filing ≡ old.filing
    → with_project new xs ≡ map (put new) xs
unfolding IsStrictlySortedBy
with_is_put new old test [] rising found same = absurd (let wrong = found in cc)
with_is_put new old test (x ∷ xs) rising found same =
    with_step new old x xs test rising.0 same (λ f. with_is_put new old test xs rising.1 f same) (test x) found

-- another project is found as before
find_put : (id : ℕ) (new : PlainProject) (xs : List PlainProject) → (id_of new == id) ≡ false → AllByRecursion (λ one. (one.filing == new.filing) ≡ true → (id_of one == id) ≡ false) xs
    → project_of id (map (put new) xs) ≡ project_of id xs
find_put id new [] other a = refl
find_put id new (x ∷ xs) other a = by (find_put id new xs other a.1) (x.filing == new.filing) refl
  where
    by : project_of id (map (put new) xs) ≡ project_of id xs → (b : Bool) → (x.filing == new.filing) ≡ b
        → cond (id_of (put new x) == id) (Some (put new x)) (project_of id (map (put new) xs)) ≡ cond (id_of x == id) (Some x) (project_of id xs)
    by others true e =
        (λ i. cond (id_of (put_is new x true e i) == id) (Some (put_is new x true e i)) (project_of id (map (put new) xs)))
        ∙ (λ i. cond (other i) (Some new) (others i))
        ∙ (λ i. cond (sym (a.0 e) i) (Some x) (project_of id xs))
    by others false e =
        (λ i. cond (id_of (put_is new x false e i) == id) (Some (put_is new x false e i)) (project_of id (map (put new) xs)))
        ∙ (λ i. cond (id_of x == id) (Some x) (others i))

-- ---- filing numbers that are told apart by others

pub moved : (ℕ → ℕ) → PlainProject → PlainProject
moved f one = record one { filing = f one.filing }

pub moved_is : (f : ℕ → ℕ) (one : PlainProject) → moved f one ≡ record one { filing = f one.filing }
unfolding moved
moved_is f one = refl

moved_filing : (f : ℕ → ℕ) (one : PlainProject) → (moved f one).filing ≡ f one.filing
unfolding moved
moved_filing f one = refl

moved_id : (f : ℕ → ℕ) (one : PlainProject) → id_of (moved f one) ≡ id_of one
unfolding moved
moved_id f one = refl

abbrev pub TellsApart : (ℕ → ℕ) → Type 0
TellsApart f = (m n : ℕ) → f m ≡ f n → m ≡ n

module _ (f : ℕ → ℕ) (tells : TellsApart f) where
  number_tells : (a b : ℕ) → (f a == f b) ≡ (a == b)
  number_tells a b = by (a == b) refl
    where
      by : (r : Bool) → (a == b) ≡ r → (f a == f b) ≡ (a == b)
      by true e = same_is (f a) (f b) (ap f (eqb-true a b e)) ∙ sym e
      by false e = apart_is (f a) (f b) (λ s. let wrong = sym e ∙ same_is a b (tells a b s) in cc) ∙ sym e

  moved_tells : (x y : PlainProject) → ((moved f x).filing == (moved f y).filing) ≡ (x.filing == y.filing)
  unfolding moved
  moved_tells x y = number_tells x.filing y.filing

  put_moved : (new one : PlainProject) → put (moved f new) (moved f one) ≡ moved f (put new one)
  put_moved new one = by (one.filing == new.filing) refl
    where
      by : (b : Bool) → (one.filing == new.filing) ≡ b → put (moved f new) (moved f one) ≡ moved f (put new one)
      by true e = put_is (moved f new) (moved f one) true (moved_tells one new ∙ e) ∙ ap (moved f) (sym (put_is new one true e))
      by false e = put_is (moved f new) (moved f one) false (moved_tells one new ∙ e) ∙ ap (moved f) (sym (put_is new one false e))

  puts_moved : (new : PlainProject) (xs : List PlainProject) → map (put (moved f new)) (map (moved f) xs) ≡ map (moved f) (map (put new) xs)
  puts_moved new [] = refl
  puts_moved new (x ∷ xs) = λ i. put_moved new x i ∷ puts_moved new xs i

  gone_moved : (old : PlainProject) (xs : List PlainProject) → without_filing (moved f old).filing (map (moved f) xs) ≡ map (moved f) (without_filing old.filing xs)
  gone_moved old [] = refl
  gone_moved old (x ∷ xs) =
      (λ i. cond (not (moved_tells x old i)) (moved f x ∷ gone_moved old xs i) (gone_moved old xs i)) ∙ by (x.filing == old.filing)
    where
      by : (b : Bool) → cond (not b) (moved f x ∷ map (moved f) (without_filing old.filing xs)) (map (moved f) (without_filing old.filing xs))
          ≡ map (moved f) (cond (not b) (x ∷ without_filing old.filing xs) (without_filing old.filing xs))
      by true = refl
      by false = refl

-- ---- two lists side by side

-- the filing number and the id of the project that stands in one list alone are its own
pub record IsOwn (id place : ℕ) (one : PlainProject) : Type 0 where
  pub at : one.filing ≡ place → id_of one ≡ id
  pub of : id_of one ≡ id → one.filing ≡ place

-- the project stands in the first list, whose others are those of the second, with other numbers
pub record Beside (f : ℕ → ℕ) (id place : ℕ) (project : PlainProject) (xs ys : List PlainProject) : Type 0 where
  pub own : AllByRecursion (IsOwn id place) xs
  pub there : project_of id xs ≡ Some project
  pub others : without_filing place xs ≡ map (moved f) ys

module _ (f : ℕ → ℕ) (tells : TellsApart f) (id place : ℕ) (project : PlainProject) (xs ys : List PlainProject) (b : Beside f id place project xs ys) where
  -- a project that is filed
  pub beside_filed : (new old : PlainProject) → new ≡ moved f old → new.filing ≢ place → id_of new ≢ id → Beside f id place project (xs ++ new ∷ []) (ys ++ old ∷ [])
  beside_filed new old same apart other = record {
    own = all_append (IsOwn id place) xs (new ∷ []) b.own (record { at = λ e. absurd (apart e); of = λ e. absurd (other e) }, tt);
    there = find-append (λ one. id_of one == id) xs (new ∷ []) ∙ ap (λ found. option_or found (find (λ one. id_of one == id) (new ∷ []))) b.there;
    others = filter-append (λ one. not (one.filing == place)) xs (new ∷ [])
        ∙ (λ i. b.others i ++ cond (not (apart_is new.filing place apart i)) (same i ∷ []) [])
        ∙ sym (map-append (moved f) ys (old ∷ []));
  }

  module _ (asked : ℕ) (other : asked ≢ id) where
    -- another project is found in both
    pub found_in_both : project_of asked xs ≡ option_map (moved f) (project_of asked ys)
    found_in_both =
        sym (find_filtered (λ one. id_of one == asked) (λ one. not (one.filing == place)) xs (all_weaker (IsOwn id place) (λ one. not (one.filing == place) ≡ false → (id_of one == asked) ≡ false) not_asked xs b.own))
        ∙ ap (project_of asked) b.others
        ∙ by ys
      where
        held : (n : ℕ) → not (n == place) ≡ false → n ≡ place
        held n h = grind (arith, nat_tests)

        not_asked : (one : PlainProject) → IsOwn id place one → not (one.filing == place) ≡ false → (id_of one == asked) ≡ false
        not_asked one own h = apart_is (id_of one) asked (λ e. other (sym e ∙ own.at (held one.filing h)))

        by : (ys : List PlainProject) → project_of asked (map (moved f) ys) ≡ option_map (moved f) (project_of asked ys)
        by [] = refl
        by (y ∷ ys) = ap (λ n. cond (n == asked) (Some (moved f y)) (project_of asked (map (moved f) ys))) (moved_id f y) ∙ again (by ys) (id_of y == asked)
          where
            again : project_of asked (map (moved f) ys) ≡ option_map (moved f) (project_of asked ys) → (r : Bool)
                → cond r (Some (moved f y)) (project_of asked (map (moved f) ys)) ≡ option_map (moved f) (cond r (Some y) (project_of asked ys))
            again h true = refl
            again h false = h

  -- another project changes in both, with its filing number and its id
  module _ (asked : ℕ) (other : asked ≢ id) (found : PlainProject) (e : project_of asked ys ≡ Some found) where
    in_first : project_of asked xs ≡ Some (moved f found)
    in_first = found_in_both asked other ∙ ap (option_map (moved f)) e

    -- it is not the project that stands in one list alone
    number_apart : (moved f found).filing ≢ place
    number_apart h =
        let own = of_found (IsOwn id place) (λ one. id_of one == asked) xs (moved f found) b.own in_first in
        let here : id_of (moved f found) ≡ asked = eqb-true (id_of (moved f found)) asked (found_passes (λ one. id_of one == asked) xs (moved f found) in_first) in
        other (sym here ∙ own.at h)

    id_apart : id_of found ≢ id
    id_apart h =
        let here : id_of found ≡ asked = eqb-true (id_of found) asked (found_passes (λ one. id_of one == asked) ys found e) in
        other (sym here ∙ h)

    -- a project with its number is not this one
    not_its_number : (n : ℕ) (one : PlainProject) → n ≢ place → IsOwn id place one → one.filing ≡ n → (id_of one == id) ≡ false
    not_its_number n one apart own h = apart_is (id_of one) id (λ same. apart (sym h ∙ own.of same))

    pub beside_withdrawn : Beside f id place project (without_filing (moved f found).filing xs) (without_filing found.filing ys)
    beside_withdrawn =
        let n = (moved f found).filing in
        record {
          own = all_filtered (IsOwn id place) (λ one. not (one.filing == n)) xs b.own;
          there =
              find_filtered (λ one. id_of one == id) (λ one. not (one.filing == n)) xs
              (all_weaker (IsOwn id place) (λ one. not (one.filing == n) ≡ false → (id_of one == id) ≡ false) (λ one own h. not_its_number n one number_apart own (eqb-true one.filing n (not-false (one.filing == n) h))) xs b.own)
              ∙ b.there;
          others = filter_twice (λ one. not (one.filing == place)) (λ one. not (one.filing == n)) xs ∙ ap (without_filing n) b.others ∙ gone_moved f tells found ys;
        }

    pub beside_replaced : (new : PlainProject) → new.filing ≡ found.filing → id_of new ≡ id_of found → IsStrictlySortedBy filing_cmp xs → IsStrictlySortedBy filing_cmp ys
        → Beside f id place project (with_project (moved f new) xs) (with_project new ys)
    beside_replaced new number name rising rising_too =
        let next = moved f new in
        let same_number : next.filing ≡ (moved f found).filing = moved_filing f new ∙ ap f number ∙ sym (moved_filing f found) in
        let apart : next.filing ≢ place = λ h. number_apart (sym same_number ∙ h) in
        let same_name : id_of next ≡ id_of found = moved_id f new ∙ name in
        let first = with_is_put next (moved f found) (λ one. id_of one == asked) xs rising in_first same_number in
        let second = with_is_put new found (λ one. id_of one == asked) ys rising_too e number in
        let elsewhere : IsOwn id place next = record { at = λ h. absurd (apart h); of = λ h. absurd (id_apart (sym same_name ∙ h)) } in
        record {
          own = all_replaced (IsOwn id place) next xs b.own elsewhere;
          there = ap (project_of id) first
              ∙ find_put id next xs (apart_is (id_of next) id (λ h. id_apart (sym same_name ∙ h)))
              (all_weaker (IsOwn id place) (λ one. (one.filing == next.filing) ≡ true → (id_of one == id) ≡ false) (λ one own h. not_its_number next.filing one apart own (eqb-true one.filing next.filing h)) xs b.own)
              ∙ b.there;
          others = ap (without_filing place) first
              ∙ filter_changed (λ one. not (one.filing == place)) (put next) (λ one. ap (λ n. not (n == place)) (put_filing next one)) xs
              ∙ ap (map (put next)) b.others
              ∙ puts_moved f tells new ys
              ∙ ap (map (moved f)) (sym second);
        }

  -- the project that stands in one list alone changes, with its filing number and its id
  module _ (new : PlainProject) (number : new.filing ≡ project.filing) (name : id_of new ≡ id_of project) where
    named : id_of project ≡ id
    named = eqb-true (id_of project) id (found_passes (λ one. id_of one == id) xs project b.there)

    is_own : IsOwn id place project
    is_own = of_found (IsOwn id place) (λ one. id_of one == id) xs project b.own b.there

    at_place : new.filing ≡ place
    at_place = number ∙ is_own.of named

    own_found : (zs : List PlainProject) → AllByRecursion (IsOwn id place) zs → project_of id zs ≡ Some project → project_of id (map (put new) zs) ≡ Some new
    own_found [] own there = absurd (let wrong = there in cc)
    own_found (z ∷ zs) own there = by (own_found zs own.1) (z.filing == new.filing) refl (id_of z == id) refl there
      where
        by : (project_of id zs ≡ Some project → project_of id (map (put new) zs) ≡ Some new) → (c : Bool) → (z.filing == new.filing) ≡ c → (d : Bool) → (id_of z == id) ≡ d
            → cond d (Some z) (project_of id zs) ≡ Some project → cond (id_of (put new z) == id) (Some (put new z)) (project_of id (map (put new) zs)) ≡ Some new
        by others true e d h there =
            (λ i. cond (id_of (put_is new z true e i) == id) (Some (put_is new z true e i)) (project_of id (map (put new) zs)))
            ∙ ap (λ n. cond n (Some new) (project_of id (map (put new) zs))) (same_is (id_of new) id (name ∙ named))
        by others false e true h there =
            absurd (let wrong = sym e ∙ same_is z.filing new.filing (own.0.of (eqb-true (id_of z) id h) ∙ sym at_place) in cc)
        by others false e false h there =
            (λ i. cond (id_of (put_is new z false e i) == id) (Some (put_is new z false e i)) (project_of id (map (put new) zs)))
            ∙ (λ i. cond (h i) (Some z) (others there i))

    left : (zs : List PlainProject) → map (put new) (without_filing place zs) ≡ without_filing place zs
    left [] = refl
    left (z ∷ zs) = by (left zs) (z.filing == place) refl
      where
        by : map (put new) (without_filing place zs) ≡ without_filing place zs → (c : Bool) → (z.filing == place) ≡ c
            → map (put new) (cond (not (z.filing == place)) (z ∷ without_filing place zs) (without_filing place zs)) ≡ cond (not (z.filing == place)) (z ∷ without_filing place zs) (without_filing place zs)
        by others true e =
            (λ i. map (put new) (cond (not (e i)) (z ∷ without_filing place zs) (without_filing place zs))) ∙ others
            ∙ (λ i. cond (not (sym e i)) (z ∷ without_filing place zs) (without_filing place zs))
        by others false e =
            (λ i. map (put new) (cond (not (e i)) (z ∷ without_filing place zs) (without_filing place zs)))
            ∙ (λ i. put_is new z false (ap (λ n. z.filing == n) at_place ∙ e) i ∷ others i)
            ∙ (λ i. cond (not (sym e i)) (z ∷ without_filing place zs) (without_filing place zs))

    pub beside_changed : IsStrictlySortedBy filing_cmp xs → Beside f id place new (with_project new xs) ys
    beside_changed rising =
        let first = with_is_put new project (λ one. id_of one == id) xs rising b.there number in
        record {
          own = all_replaced (IsOwn id place) new xs b.own (record { at = λ h. name ∙ named; of = λ h. at_place });
          there = ap (project_of id) first ∙ own_found xs b.own b.there;
          others = ap (without_filing place) first
              ∙ filter_changed (λ one. not (one.filing == place)) (put new) (λ one. ap (λ n. not (n == place)) (put_filing new one)) xs
              ∙ left xs
              ∙ b.others;
        }
