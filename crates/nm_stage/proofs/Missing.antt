-- The ids that are reached step by step, and the least that is not.
use Rattle.std.proofs.Common.{◌≡◌, ◌∙◌, ℕ, ◌+◌, ◌<◌, List, [], ◌∷◌, ◌++◌, length, take, drop, get_or, Bool, true, false, ◌||◌, ◌==◌, not, cond, min, Option, None, Some, map, Bor, nat_cmp, append_assoc, add-one, refl, sym, ap, subst, arith}
use Rattle.std.proofs.lemmas.Cmp.{nat_cmp_total}
use Rattle.std.proofs.lemmas.List.{append-nil, take_more}
use Rattle.std.proofs.lemmas.List.Folds.{list_any-append}
use Rattle.std.proofs.Math.Seq.{drop-cons}
use Rattle.std.specs.BTreeSet.{BTreeSet, contains, insert_key}
use Rattle.std.specs.Cmp.{unsigned_ties}
use Rattle.std.specs.List.{filter}
use Rattle.nm_ident.proofs.Rising.{has-insert_key}
use Rattle.nm_stage.specs.Dependencies.{HasIds, least_of, least_or, missing_from, missing_or}
use Rattle.nm_stage.specs.Project.{PlainProject, has_id}

-- ---- the least

min_turn : (x y : ℕ) → min y x ≡ min x y
min_turn x y = omega arith

min_around : (x y z : ℕ) → min y (min x z) ≡ min x (min y z)
min_around x y z = omega arith

least_or_turn : (x y : ℕ) (least : Option ℕ) → least_or y (Some (least_or x least)) ≡ least_or x (Some (least_or y least))
least_or_turn x y None = min_turn x y
least_or_turn x y (Some z) = min_around x y z

least_of-push : (xs : List ℕ) (x : ℕ) → least_of (xs ++ x ∷ []) ≡ Some (least_or x (least_of xs))
least_of-push [] x = refl
least_of-push (y ∷ ys) x = ap (λ least. Some (least_or y least)) (least_of-push ys x) ∙ ap Some (least_or_turn x y (least_of ys))

filter-push : (p : ℕ → Bool) (xs : List ℕ) (x : ℕ) → filter p (xs ++ x ∷ []) ≡ filter p xs ++ cond (p x) (x ∷ []) []
filter-push p [] x = refl
filter-push p (y ∷ ys) x = by (filter-push p ys x) (p y)
  where
    by : filter p (ys ++ x ∷ []) ≡ filter p ys ++ cond (p x) (x ∷ []) [] → (b : Bool)
        → cond b (y ∷ filter p (ys ++ x ∷ [])) (filter p (ys ++ x ∷ [])) ≡ cond b (y ∷ filter p ys) (filter p ys) ++ cond (p x) (x ∷ []) []
    by h true = ap (λ l. y ∷ l) h
    by h false = h

module _ (p : ℕ → Bool) (xs : List ℕ) (i : ℕ) (within : i < length xs) where
  more : filter p (take (i + 1) xs) ≡ filter p (take i xs) ++ cond (p (get_or xs i 0)) (get_or xs i 0 ∷ []) []
  more = ap (filter p) (take_more xs i 0 within) ∙ filter-push p (take i xs) (get_or xs i 0)

  pub least_kept : (least : Option ℕ) → least ≡ least_of (filter p (take i xs)) → p (get_or xs i 0) ≡ false → least ≡ least_of (filter p (take (i + 1) xs))
  least_kept least e fails =
      e ∙ sym (ap least_of (more ∙ (λ j. filter p (take i xs) ++ cond (fails j) (get_or xs i 0 ∷ []) []) ∙ append-nil (filter p (take i xs))))

  pub least_taken : (least : Option ℕ) → least ≡ least_of (filter p (take i xs)) → p (get_or xs i 0) ≡ true → Some (least_or (get_or xs i 0) least) ≡ least_of (filter p (take (i + 1) xs))
  least_taken least e holds =
      ap (λ before. Some (least_or (get_or xs i 0) before)) e ∙ sym (least_of-push (filter p (take i xs)) (get_or xs i 0))
      ∙ sym (ap least_of (more ∙ (λ j. filter p (take i xs) ++ cond (holds j) (get_or xs i 0 ∷ []) [])))

-- ---- the ids that are reached

or_turn : (a b : Bool) → (a || b) ≡ (b || (a || false))
or_turn true true = refl
or_turn true false = refl
or_turn false true = refl
or_turn false false = refl

pub has_one_more : (set new : BTreeSet ℕ) (ids : List ℕ) (k : ℕ) → new.keys ≡ insert_key nat_cmp set.keys k → HasIds set ids → HasIds new (ids ++ k ∷ [])
has_one_more set new ids k e h id =
    ap (λ (keys : List ℕ). contains nat_cmp (record { keys = keys }) id) e
    ∙ has-insert_key nat_cmp_total set.keys k id
    ∙ (λ i. sym (unsigned_ties id k) i || h id i)
    ∙ or_turn (id == k) (has_id ids id)
    ∙ sym (list_any-append (λ other. id == other) ids (k ∷ []))

pub has_more : (set new : BTreeSet ℕ) (known xs : List ℕ) (i : ℕ) → i < length xs → new.keys ≡ insert_key nat_cmp set.keys (get_or xs i 0)
    → HasIds set (known ++ take i xs) → HasIds new (known ++ take (i + 1) xs)
has_more set new known xs i within e h =
    subst (HasIds new) (append_assoc known (take i xs) (get_or xs i 0 ∷ []) ∙ ap (λ l. known ++ l) (sym (take_more xs i 0 within)))
    (has_one_more set new (known ++ take i xs) (get_or xs i 0) e h)

pub has_none : (set : BTreeSet ℕ) → set.keys ≡ [] → HasIds set []
has_none set e id = ap (λ (keys : List ℕ). contains nat_cmp (record { keys = keys }) id) e

-- ---- the first that is missing

pub missing_at : (set : BTreeSet ℕ) (ids : List ℕ) (projects : List (Bor PlainProject)) (i : ℕ) (one : Bor PlainProject) → i < length projects → one ≡ get_or projects i one → HasIds set ids
    → missing_from ids (map (λ p. p.now) (drop i projects)) ≡ missing_or one.now (least_of (filter (λ id. not (contains nat_cmp set id)) one.now.dependencies)) (missing_from (ids ++ one.now.lineage) (map (λ p. p.now) (drop (i + 1) projects)))
missing_at set ids projects i one within is has =
    let first : drop i projects ≡ one ∷ drop (i + 1) projects =
    drop-cons projects i one within ∙ (λ j. sym is j ∷ drop (sym (add-one i) j) projects) in
    ap (λ l. missing_from ids (map (λ p. p.now) l)) first
    ∙ (λ j. missing_or one.now (least_of (filter (λ id. not (sym (has id) j)) one.now.dependencies)) (missing_from (ids ++ one.now.lineage) (map (λ p. p.now) (drop (i + 1) projects))))
