-- The first cause of a step, and the first break of a replay, step by step.
use Rattle.std.proofs.Common.{◌≡◌, ◌∙◌, ℕ, ◌<◌, List, [], ◌∷◌, ◌++◌, Option, None, Some, Ordering, nat_cmp, map, min, refl, ap, sym, arith}
use Rattle.std.specs.BTreeSet.{insert_key}
use Rattle.std.specs.Cmp.{ranked}
use Rattle.std.specs.Option.{option_map, option_or}
use Rattle.std.specs.Ordering.{match_ordering}
use Rattle.std.specs.declared.cmp.Ordering.TheVariants.{Less, Equal, Greater}
use Rattle.nm_check.specs.Breaks.{first_of}
use Rattle.nm_check.specs.Replay.{set_after}
use Rattle.nm_model.specs.Header.{rising_ids}
use Rattle.nm_stage.specs.Dependencies.{least_of, least_or, unmet}
use Rattle.nm_stage.specs.Project.{PlainProject}
use Rattle.nm_statement.specs.declared.statement.Statement.{Statement}
use Rattle.nm_version.specs.Replay.{breaks, causes, refusal_at, statement_causes}
use Rattle.nm_version.specs.declared.refusal.Cause.{Cause}
use Rattle.nm_version.specs.declared.refusal.Cause.TheVariants.{Dependency}
use Rattle.nm_version.specs.declared.refusal.Refusal.{Refusal}

-- ---- the first of a list

first_of-append : {X : Type 0} (xs ys : List X) → first_of (xs ++ ys) ≡ option_or (first_of xs) (first_of ys)
first_of-append [] ys = refl
first_of-append (x ∷ xs) ys = refl

first_of-map : {X Y : Type 0} (f : X → Y) (xs : List X) → first_of (map f xs) ≡ option_map f (first_of xs)
first_of-map f [] = refl
first_of-map f (x ∷ xs) = refl

-- ---- the least id comes first in order

first-insert : (x : ℕ) (ys : List ℕ) → first_of (insert_key nat_cmp ys x) ≡ Some (least_or x (first_of ys))
first-insert x [] = refl
first-insert x (y ∷ ys) = by (nat_cmp x y) refl
  where
    by : (r : Ordering) → nat_cmp x y ≡ r → first_of (match_ordering r (x ∷ y ∷ ys) (y ∷ ys) (y ∷ insert_key nat_cmp ys x)) ≡ Some (min x y)
    by Less e = let below : x < y = ranked x y Less (sym e) in ap Some (omega arith)
    by Equal e = let same : x ≡ y = ranked x y Equal (sym e) in ap Some (omega arith)
    by Greater e = let above : y < x = ranked x y Greater (sym e) in ap Some (omega arith)

pub least_first : (ids : List ℕ) → first_of (rising_ids ids) ≡ least_of ids
least_first [] = refl
least_first (x ∷ xs) = first-insert x (rising_ids xs) ∙ ap (λ least. Some (least_or x least)) (least_first xs)

-- ---- a step

abbrev pub cause_or : Option ℕ → Option Cause → Option Cause
cause_or None other = other
cause_or (Some id) other = Some (Dependency id)

cause_or-is : (least : Option ℕ) (other : Option Cause) → option_or (option_map Dependency least) other ≡ cause_or least other
cause_or-is None other = refl
cause_or-is (Some id) other = refl

pub first_cause : (known : List ℕ) (set : List Statement) (p : PlainProject)
    → first_of (causes known set p) ≡ cause_or (least_of (unmet known p.dependencies)) (first_of (statement_causes set p.change))
first_cause known set p =
    let ids : List ℕ = rising_ids (unmet known p.dependencies) in
    first_of-append (map Dependency ids) (statement_causes set p.change)
    ∙ ap (λ first. option_or first (first_of (statement_causes set p.change))) (first_of-map Dependency ids ∙ ap (option_map Dependency) (least_first (unmet known p.dependencies)))
    ∙ cause_or-is (least_of (unmet known p.dependencies)) (first_of (statement_causes set p.change))

pub first_break_at : (known : List ℕ) (set : List Statement) (p : PlainProject) (ps : List PlainProject)
    → first_of (breaks known set (p ∷ ps)) ≡ option_or (option_map (refusal_at p) (first_of (causes known set p))) (first_of (breaks (known ++ p.lineage) (set_after set p.change) ps))
first_break_at known set p ps =
    let behind : List Refusal = breaks (known ++ p.lineage) (set_after set p.change) ps in
    first_of-append (map (refusal_at p) (causes known set p)) behind
    ∙ ap (λ first. option_or first (first_of behind)) (first_of-map (refusal_at p) (causes known set p))
