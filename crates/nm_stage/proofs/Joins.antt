-- When a project can join a live list.
use Rattle.std.proofs.Common.{◌≡◌, ◌∙◌, ℕ, ◌<◌, List, [], ◌∷◌, ◌++◌, length, Bool, true, false, ◌||◌, not, ◌==◌, cond, Some, nat_eq, length-append, refl, sym, subst, arith}
use Rattle.std.proofs.lemmas.List.Elements.{All-head, All-tail}
use Rattle.std.specs.List.{All, AllByRecursion, IsDistinct, filter}
use Rattle.nm_ident.proofs.Rising.{all_append, all_weaker}
use Rattle.nm_stage.proofs.Lives.{Apart, all_back, all_front, apart_append, apart_back, apart_between, apart_front, flips, is_same, without-live}
use Rattle.nm_stage.proofs.Sorting.{both}
use Rattle.nm_stage.specs.Laws.{JoinsAgain, JoinsRevised, JoinsWithNewId, JoinsWithOwnIds}
use Rattle.nm_stage.specs.Live.{AreApart, CanJoin, IsLive, holds, ids_of, project_of, without_filing}
use Rattle.nm_stage.specs.Project.{PlainProject, has_id, id_of}

alone : (id : ℕ) → AreApart (id ∷ [])
unfolding IsDistinct
alone id = (tt, tt)

either_not : (a b : Bool) → (a || b) ≡ false → (a ≡ false) × (b ≡ false)
either_not false b e = (refl, e)
either_not true b e = cc

pub neither : (a b : Bool) → a ≡ false → b ≡ false → (a || b) ≡ false
neither a b e f = λ i. e i || f i

not_in : (id : ℕ) (ids : List ℕ) → has_id ids id ≡ false → AllByRecursion (λ y. nat_eq id y ≡ false) ids
not_in id [] e = tt
not_in id (x ∷ xs) e = let both = either_not (id == x) (has_id xs id) e in (both.0, not_in id xs both.1)

in_none : (id : ℕ) (ids : List ℕ) → AllByRecursion (λ y. nat_eq id y ≡ false) ids → has_id ids id ≡ false
in_none id [] a = refl
in_none id (x ∷ xs) a = neither (id == x) (has_id xs id) a.0 (in_none id xs a.1)

not_held : (id : ℕ) (live : List PlainProject) → holds live id ≡ false → AllByRecursion (λ y. nat_eq id y ≡ false) (ids_of live)
not_held id [] e = tt
not_held id (x ∷ xs) e =
    let both = either_not (has_id x.lineage id) (holds xs id) e in
    all_append (λ y. nat_eq id y ≡ false) x.lineage (ids_of xs) (not_in id x.lineage both.0) (not_held id xs both.1)

pub held_by_none : (id : ℕ) (live : List PlainProject) → AllByRecursion (λ y. nat_eq id y ≡ false) (ids_of live) → holds live id ≡ false
held_by_none id [] a = refl
held_by_none id (x ∷ xs) a =
    neither (has_id x.lineage id) (holds xs id) (in_none id x.lineage (all_front (λ y. nat_eq id y ≡ false) x.lineage (ids_of xs) a))
    (held_by_none id xs (all_back (λ y. nat_eq id y ≡ false) x.lineage (ids_of xs) a))

pub joins_with_own_ids : JoinsWithOwnIds
joins_with_own_ids project live l some apart held = record {
  some = some;
  apart = apart_append project.lineage (ids_of (without_filing project.filing live)) apart
      l.apart
      (all_weaker (λ id. holds (without_filing project.filing live) id ≡ false) (λ id. AllByRecursion (λ y. nat_eq id y ≡ false) (ids_of (without_filing project.filing live)))
      (λ id. not_held id (without_filing project.filing live)) project.lineage held);
}

-- an id that no project has is one that none of some has
pub held_by_fewer : (id : ℕ) (test : PlainProject → Bool) (live : List PlainProject) → holds live id ≡ false → holds (filter test live) id ≡ false
held_by_fewer id test [] e = refl
held_by_fewer id test (x ∷ xs) e = by (either_not (has_id x.lineage id) (holds xs id) e).0 (held_by_fewer id test xs (either_not (has_id x.lineage id) (holds xs id) e).1) (test x)
  where
    by : has_id x.lineage id ≡ false → holds (filter test xs) id ≡ false → (b : Bool) → holds (cond b (x ∷ filter test xs) (filter test xs)) id ≡ false
    by first others true = neither (has_id x.lineage id) (holds (filter test xs) id) first others
    by first others false = others

pub joins_alone : (project : PlainProject) (live : List PlainProject) (id : ℕ) → IsLive (without_filing project.filing live) → project.lineage ≡ id ∷ [] → holds (without_filing project.filing live) id ≡ false → CanJoin project live
joins_alone project live id l e free =
    joins_with_own_ids project live l
    (subst (λ (ids : List ℕ). 0 < length ids) (sym e) (omega arith))
    (subst AreApart (sym e) (alone id))
    (subst (AllByRecursion (λ i. holds (without_filing project.filing live) i ≡ false)) (sym e) (free, tt))

pub joins_with_new_id : JoinsWithNewId
joins_with_new_id project live id l e free =
    joins_alone project live id (without-live project.filing live l) e (held_by_fewer id (λ one. not (one.filing == project.filing)) live free)

transposed : (xs ys : List ℕ) → Apart xs ys → Apart ys xs
transposed [] ys c = nothing ys
  where
    nothing : (zs : List ℕ) → Apart zs []
    nothing [] = tt
    nothing (z ∷ zs) = (tt, nothing zs)
transposed (x ∷ xs) ys c =
    both (λ y. nat_eq x y ≡ false) (λ y. AllByRecursion (λ z. nat_eq y z ≡ false) xs) (λ y. AllByRecursion (λ z. nat_eq y z ≡ false) (x ∷ xs))
    (λ y e a. (flips y x ∙ e, a)) ys c.0 (transposed xs ys c.1)

-- what holds of all ids holds of those of a project that is found
lineage_among : (P : ℕ → Type 0) (id : ℕ) (old : PlainProject) (live : List PlainProject) → project_of id live ≡ Some old → AllByRecursion P (ids_of live) → AllByRecursion P old.lineage
lineage_among P id old [] e a = absurd (let wrong = e in cc)
lineage_among P id old (x ∷ xs) e a = by (λ f. lineage_among P id old xs f (all_back P x.lineage (ids_of xs) a)) (id_of x == id) e
  where
    by : (project_of id xs ≡ Some old → AllByRecursion P old.lineage) → (b : Bool) → cond b (Some x) (project_of id xs) ≡ Some old → AllByRecursion P old.lineage
    by later true f = let same : x ≡ old = cc in subst (λ (p : PlainProject). AllByRecursion P p.lineage) same (all_front P x.lineage (ids_of xs) a)
    by later false f = later f

-- what a live project has for itself
record Own (old : PlainProject) (live : List PlainProject) : Type 0 where
  pub some : 0 < length old.lineage
  pub apart : AreApart old.lineage
  pub held : AllByRecursion (λ id. holds (without_filing old.filing live) id ≡ false) old.lineage

own_first : (x : PlainProject) (xs : List PlainProject) → 0 < length x.lineage → AreApart (x.lineage ++ ids_of xs) → Own x (x ∷ xs)
own_first x xs some d = record {
  some = some;
  apart = apart_front x.lineage (ids_of xs) d;
  held = all_weaker (λ id. AllByRecursion (λ y. nat_eq id y ≡ false) (ids_of xs)) (λ id. holds (without_filing x.filing (x ∷ xs)) id ≡ false)
      (λ id a. (λ i. holds (cond (is_same x.filing x.filing refl i) (x ∷ without_filing x.filing xs) (without_filing x.filing xs)) id)
      ∙ held_by_fewer id (λ one. not (one.filing == x.filing)) xs (held_by_none id xs a)) x.lineage (apart_between x.lineage (ids_of xs) d);
}

own_later : (x old : PlainProject) (xs : List PlainProject) (id : ℕ) → AreApart (x.lineage ++ ids_of xs) → project_of id xs ≡ Some old → Own old xs → Own old (x ∷ xs)
own_later x old xs id d e own = record {
  some = own.some;
  apart = own.apart;
  held = both (λ i. holds (without_filing old.filing xs) i ≡ false) (λ i. AllByRecursion (λ y. nat_eq i y ≡ false) x.lineage) (λ i. holds (without_filing old.filing (x ∷ xs)) i ≡ false)
      (λ i f a. by i f (in_none i x.lineage a) (not (x.filing == old.filing))) old.lineage own.held
      (lineage_among (λ i. AllByRecursion (λ y. nat_eq i y ≡ false) x.lineage) id old xs e (transposed x.lineage (ids_of xs) (apart_between x.lineage (ids_of xs) d)));
}
  where
    by : (i : ℕ) → holds (without_filing old.filing xs) i ≡ false → has_id x.lineage i ≡ false → (b : Bool) → holds (cond b (x ∷ without_filing old.filing xs) (without_filing old.filing xs)) i ≡ false
    by i others first true = neither (has_id x.lineage i) (holds (without_filing old.filing xs) i) first others
    by i others first false = others

own_of : (id : ℕ) (old : PlainProject) (live : List PlainProject) → All (λ project. 0 < length project.lineage) live → AreApart (ids_of live) → project_of id live ≡ Some old → Own old live
own_of id old [] some d e = absurd (let wrong = e in cc)
own_of id old (x ∷ xs) some d e =
    by (λ f. own_of id old xs (All-tail (λ (project : PlainProject). 0 < length project.lineage) x xs some) (apart_back x.lineage (ids_of xs) d) f) (id_of x == id) e
  where
    by : (project_of id xs ≡ Some old → Own old xs) → (b : Bool) → cond b (Some x) (project_of id xs) ≡ Some old → Own old (x ∷ xs)
    by later true f = let same : x ≡ old = cc in subst (λ (p : PlainProject). Own p (x ∷ xs)) same (own_first x xs (All-head (λ (project : PlainProject). 0 < length project.lineage) x xs some) d)
    by later false f = own_later x old xs id d f (later f)

pub joins_again : JoinsAgain
joins_again id old new live l found filing lineage =
    let own = own_of id old live l.lineages l.apart found in
    joins_with_own_ids new live (without-live new.filing live l)
    (subst (λ (ids : List ℕ). 0 < length ids) (sym lineage) own.some)
    (subst AreApart (sym lineage) own.apart)
    (subst (λ (n : ℕ). AllByRecursion (λ i. holds (without_filing n live) i ≡ false) new.lineage) (sym filing)
    (subst (AllByRecursion (λ i. holds (without_filing old.filing live) i ≡ false)) (sym lineage) own.held))

pub joins_revised : JoinsRevised
joins_revised id old new live added l found filing lineage free =
    let own = own_of id old live l.lineages l.apart found in
    let differ = all_weaker (λ y. nat_eq added y ≡ false) (λ y. AllByRecursion (λ z. nat_eq y z ≡ false) (added ∷ [])) (λ y e. (flips y added ∙ e, tt)) old.lineage
    (lineage_among (λ y. nat_eq added y ≡ false) id old live found (not_held added live free)) in
    joins_with_own_ids new live (without-live new.filing live l)
    (subst (λ (ids : List ℕ). 0 < length ids) (sym lineage) (omega (arith, length-append old.lineage (added ∷ []), own.some)))
    (subst AreApart (sym lineage) (apart_append old.lineage (added ∷ []) own.apart (alone added) differ))
    (subst (λ (n : ℕ). AllByRecursion (λ i. holds (without_filing n live) i ≡ false) new.lineage) (sym filing)
    (subst (AllByRecursion (λ i. holds (without_filing old.filing live) i ≡ false)) (sym lineage)
    (all_append (λ i. holds (without_filing old.filing live) i ≡ false) old.lineage (added ∷ []) own.held (held_by_fewer added (λ one. not (one.filing == old.filing)) live free, tt))))
