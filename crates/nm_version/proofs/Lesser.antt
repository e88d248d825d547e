-- The first break is the lesser of the first dependency that is not met and the first statement that does not fit.
use Rattle.std.proofs.Common.{◌≡◌, ◌∙◌, ℕ, ◌==◌, List, [], ◌∷◌, ◌++◌, true, false, not, cond, if◌then◌else◌, Option, None, Some, nat_cmp, map, arith, refl, sym, ap, subst}
use Rattle.std.proofs.lemmas.Bool.Decides.{nat_tests}
use Rattle.std.proofs.lemmas.Cmp.{tied_itself}
use Rattle.std.proofs.lemmas.List.{map-append}
use Rattle.std.proofs.lemmas.List.Elements.{All-from_recursion, recursion_from_All}
use Rattle.std.proofs.lemmas.List.Sorted.{All-permutation}
use Rattle.std.specs.Cmp.{ranked}
use Rattle.std.specs.List.{AllByRecursion, filter, find}
use Rattle.std.specs.List.Sorted.{IsStrictlySortedBy}
use Rattle.std.specs.Option.{option_map, option_or}
use Rattle.std.specs.Ordering.{is_gt, ordering_reverse}
use Rattle.std.specs.declared.cmp.Ordering.TheVariants.{Less}
use Rattle.nm_check.proofs.Rising.{all_at, all_map, all_so, later_breaks}
use Rattle.nm_check.specs.Breaks.{break_at, breaks_at, first_of, first_statement_break, statement_breaks}
use Rattle.nm_check.specs.declared.breaks.Break.{Break}
use Rattle.nm_day.proofs.Orders.{key_cmp-total}
use Rattle.nm_day.specs.Key.{key_cmp}
use Rattle.nm_day.specs.declared.key.Key.{Key}
use Rattle.nm_ident.proofs.Rising.{all_append, all_weaker}
use Rattle.nm_stage.proofs.Orders.{live_projects_stand_in_order}
use Rattle.nm_stage.specs.Dependencies.{least_of, missing_from, missing_of, missing_or, unmet}
use Rattle.nm_stage.specs.Laws.{InOrder}
use Rattle.nm_stage.specs.Live.{IsLive, filing_cmp}
use Rattle.nm_stage.specs.Project.{PlainProject, PlainStep, key_of, model_of, step_of}
use Rattle.nm_stage.specs.Steps.{in_order, project_cmp, steps_of}
use Rattle.nm_statement.specs.Set.{has}
use Rattle.nm_statement.specs.declared.statement.Statement.{Statement}
use Rattle.nm_timeline.specs.declared.part.Part.{Part}
use Rattle.nm_timeline.specs.declared.part.Part.TheVariants as part
use Rattle.nm_version.proofs.Breaks.{cause_or, first_break_at, first_cause}
use Rattle.nm_version.specs.Lesser.{FirstBreakIsTheLesser, cause_by, cause_of, lesser_cause, refusal_by}
use Rattle.nm_check.specs.Replay.{set_after}
use Rattle.nm_version.specs.Replay.{breaks, causes, first_break, known_before, refusal_at, statement_causes}
use Rattle.nm_version.specs.declared.refusal.Cause.{Cause}
use Rattle.nm_version.specs.declared.refusal.Cause.TheVariants.{Dependency, Precondition, Reverse, Forward}
use Rattle.nm_version.specs.declared.refusal.Refusal.{Refusal}
use Rattle.nm_version.specs.declared.refusal.Refusal.TheVariants as refusal

-- ---- one step

-- the causes of a part are those of its breaks
part_causes : (key : Key) (p : Part) (name : Statement → Cause) → ((s : Statement) → name s ≡ cause_by p s) → (xs : List Statement)
    → map name xs ≡ map cause_of (map (break_at key p) xs)
part_causes key p name same [] = refl
part_causes key p name same (x ∷ xs) = λ i. same x i ∷ part_causes key p name same xs i

pub causes_are : (set : List Statement) (step : PlainStep) → statement_causes set step.change ≡ map cause_of (breaks_at set step)
causes_are set step =
    let lacks = λ (x : Statement). not (has set x) in
    let pres = filter lacks step.change.pre in
    let revs = filter lacks step.change.rev in
    let fwds = filter (has set) step.change.fwd in
    let pre = map (break_at step.key part.Precondition) pres in
    let rev = map (break_at step.key part.Reverse) revs in
    let fwd = map (break_at step.key part.Forward) fwds in
    (λ i. part_causes step.key part.Precondition Precondition (λ s. refl) pres i ++ part_causes step.key part.Reverse Reverse (λ s. refl) revs i
    ++ part_causes step.key part.Forward Forward (λ s. refl) fwds i)
    ∙ (λ i. sym (map-append cause_of pre rev) i ++ map cause_of fwd)
    ∙ sym (map-append cause_of (pre ++ rev) fwd)

own_key : (set : List Statement) (step : PlainStep) → AllByRecursion (λ b. b.key ≡ step.key) (breaks_at set step)
own_key set step =
    all_at (λ b. b.key ≡ step.key) set step
    (all_so (λ x. step.key ≡ step.key) (λ x. refl) step.change.pre)
    (all_so (λ x. step.key ≡ step.key) (λ x. refl) step.change.rev)
    (all_so (λ x. step.key ≡ step.key) (λ x. refl) step.change.fwd)

-- ---- all steps

-- a dependency that is missing behind a key has a key above it
missing_above : (key : Key) (known : List ℕ) (ps : List PlainProject) → AllByRecursion (λ q. key_cmp key (key_of q) ≡ Less) ps
    → (at : Key × ℕ) → missing_from known ps ≡ Some at → key_cmp key at.0 ≡ Less
missing_above key known [] later at e = absurd (let wrong = e in cc)
missing_above key known (q ∷ qs) later at e = by (least_of (unmet known q.dependencies)) (missing_above key (known ++ q.lineage) qs later.1 at) e
  where
    by : (least : Option ℕ) → (missing_from (known ++ q.lineage) qs ≡ Some at → key_cmp key at.0 ≡ Less)
        → missing_or q least (missing_from (known ++ q.lineage) qs) ≡ Some at → key_cmp key at.0 ≡ Less
    by None h f = h f
    by (Some id) h f = let same : (key_of q, id) ≡ at = cc in subst (λ (a : Key × ℕ). key_cmp key a.0 ≡ Less) same later.0

module _ (tell : Key → Cause → Option Refusal) where
  abbrev told : Option (Key × Cause) → Option Refusal
  told None = None
  told (Some at) = tell at.0 at.1

  -- a cause at the key of the project is told of it
  abbrev Tells : PlainProject → Type 0
  Tells p = (cause : Cause) → tell (key_of p) cause ≡ Some (refusal_at p cause)

  -- where a dependency is missing at a key, and no break is below it
  dependency_first : (key : Key) (id : ℕ) (bs : List Break) → AllByRecursion (λ b. is_gt (key_cmp key b.key) ≡ false) bs
      → told (lesser_cause (Some (key, id)) (first_of bs)) ≡ tell key (Dependency id)
  dependency_first key id [] below = refl
  dependency_first key id (b ∷ bs) below = ap (λ gt. told (if gt then Some (b.key, cause_of b) else Some (key, Dependency id))) below.0

  -- where a break is at a key, and nothing is missing at it or before
  statement_first : (b : Break) (missing : Option (Key × ℕ)) → ((at : Key × ℕ) → missing ≡ Some at → key_cmp b.key at.0 ≡ Less)
      → told (lesser_cause missing (Some b)) ≡ tell b.key (cause_of b)
  statement_first b None above = refl
  statement_first b (Some at) above =
      ap (λ r. told (if is_gt r then Some (b.key, cause_of b) else Some (at.0, Dependency at.1)))
      (key_cmp-total.antisymm at.0 b.key ∙ ap ordering_reverse (above at refl))

  not_above : (key : Key) (c : Break) → key_cmp key c.key ≡ Less → is_gt (key_cmp key c.key) ≡ false
  not_above key c e = ap is_gt e

  level : (key : Key) (c : Break) → c.key ≡ key → is_gt (key_cmp key c.key) ≡ false
  level key c e = ap (λ k. is_gt (key_cmp key k)) e ∙ ap is_gt (tied_itself key_cmp-total key)

  module _ (known : List ℕ) (set : List Statement) (p : PlainProject) (ps : List PlainProject) where
    abbrev others : List Refusal
    others = breaks (known ++ p.lineage) (set_after set p.change) ps

    abbrev missing_later : Option (Key × ℕ)
    missing_later = missing_from (known ++ p.lineage) ps

    abbrev breaks_later : List Break
    breaks_later = statement_breaks (set_after set p.change) (map step_of ps)

    -- by what is missing at the step, and what breaks there
    step_told : (least : Option ℕ) (bs : List Break) → Tells p → AllByRecursion (λ b. b.key ≡ key_of p) bs
        → AllByRecursion (λ q. key_cmp (key_of p) (key_of q) ≡ Less) ps
        → first_of others ≡ told (lesser_cause missing_later (first_of breaks_later))
        → option_or (option_map (refusal_at p) (cause_or least (first_of (map cause_of bs)))) (first_of others)
        ≡ told (lesser_cause (missing_or p least missing_later) (first_of (bs ++ breaks_later)))
    step_told (Some id) bs tells own later rest =
        sym (dependency_first (key_of p) id (bs ++ breaks_later)
        (all_append (λ b. is_gt (key_cmp (key_of p) b.key) ≡ false) bs breaks_later
        (all_weaker (λ b. b.key ≡ key_of p) (λ b. is_gt (key_cmp (key_of p) b.key) ≡ false) (level (key_of p)) bs own)
        (all_weaker (λ b. key_cmp (key_of p) b.key ≡ Less) (λ b. is_gt (key_cmp (key_of p) b.key) ≡ false) (not_above (key_of p)) breaks_later
        (later_breaks (key_of p) (map step_of ps) (set_after set p.change) (all_map (λ step. key_cmp (key_of p) step.key ≡ Less) step_of ps later))))
        ∙ tells (Dependency id))
    step_told None [] tells own later rest = rest
    step_told None (b ∷ bs) tells own later rest =
        sym (statement_first b missing_later
        (λ at e. ap (λ k. key_cmp k at.0) own.0 ∙ missing_above (key_of p) (known ++ p.lineage) ps later at e)
        ∙ ap (λ k. tell k (cause_of b)) own.0
        ∙ tells (cause_of b))

  pub replay_told : (ps : List PlainProject) (known : List ℕ) (set : List Statement) → IsStrictlySortedBy project_cmp ps → AllByRecursion Tells ps
      → first_of (breaks known set ps) ≡ told (lesser_cause (missing_from known ps) (first_of (statement_breaks set (map step_of ps))))
  unfolding IsStrictlySortedBy
  replay_told [] known set rising tells = refl
  replay_told (p ∷ ps) known set rising tells =
      first_break_at known set p ps
      ∙ (λ i. option_or (option_map (refusal_at p) (here i)) (first_of (breaks (known ++ p.lineage) (set_after set p.change) ps)))
      ∙ step_told known set p ps (least_of (unmet known p.dependencies)) (breaks_at set (step_of p)) tells.0 (own_key set (step_of p)) rising.0
      (replay_told ps (known ++ p.lineage) (set_after set p.change) rising.1 tells.1)
    where
      here : first_of (causes known set p) ≡ cause_or (least_of (unmet known p.dependencies)) (first_of (map cause_of (breaks_at set (step_of p))))
      here = first_cause known set p ∙ ap (λ cs. cause_or (least_of (unmet known p.dependencies)) (first_of cs)) (causes_are set (step_of p))

-- ---- the live projects

-- a project is found by its filing number
abbrev pub by_filing : List PlainProject → ℕ → Option PlainProject
by_filing live filing = find (λ project. project.filing == filing) live

same_number : (n : ℕ) → (n == n) ≡ true
same_number n = grind (arith, nat_tests)

other_number : (m n : ℕ) → nat_cmp m n ≡ Less → (m == n) ≡ false
other_number m n e = let below = ranked m n Less (sym e) in grind (arith, nat_tests)

pub find_own : (live : List PlainProject) → IsStrictlySortedBy filing_cmp live → AllByRecursion (λ p. by_filing live p.filing ≡ Some p) live
unfolding IsStrictlySortedBy
find_own [] rising = tt
find_own (x ∷ xs) rising = (
  ap (λ b. cond b (Some x) (by_filing xs x.filing)) (same_number x.filing),
  behind xs rising.0 (find_own xs rising.1),
)
  where
    behind : (ys : List PlainProject) → AllByRecursion (λ y. filing_cmp x y ≡ Less) ys → AllByRecursion (λ y. by_filing xs y.filing ≡ Some y) ys
        → AllByRecursion (λ y. by_filing (x ∷ xs) y.filing ≡ Some y) ys
    behind [] a h = tt
    behind (y ∷ ys) a h = (ap (λ b. cond b (Some x) (by_filing xs y.filing)) (other_number x.filing y.filing a.0) ∙ h.0, behind ys a.1 h.1)

-- each of the live projects in order
pub find_ordered : (live : List PlainProject) → IsLive live → AllByRecursion (λ p. by_filing live p.filing ≡ Some p) (in_order live)
find_ordered live l =
    recursion_from_All (λ p. by_filing live p.filing ≡ Some p) (in_order live)
    (All-permutation (λ p. by_filing live p.filing ≡ Some p) live (in_order live) (live_projects_stand_in_order live l).all
    (All-from_recursion (λ p. by_filing live p.filing ≡ Some p) live (find_own live l.rising)))

pub first_break_is_the_lesser : FirstBreakIsTheLesser
unfolding first_break
first_break_is_the_lesser base live l =
    replay_told tell (in_order live) (known_before base.header) base.statements order.rising told_all
    ∙ same (lesser_cause (missing_of (known_before base.header) live) (first_statement_break base.statements (steps_of live)))
  where
    tell : Key → Cause → Option Refusal
    tell key cause = option_map (λ project. refusal.Step key.day (model_of project) cause) (by_filing live key.filing)

    order : InOrder live
    order = live_projects_stand_in_order live l

    told_all : AllByRecursion (Tells tell) (in_order live)
    told_all =
        all_weaker (λ p. by_filing live p.filing ≡ Some p) (Tells tell)
        (λ p e cause. ap (option_map (λ project. refusal.Step p.day (model_of project) cause)) e) (in_order live) (find_ordered live l)

    same : (at : Option (Key × Cause)) → told tell at ≡ refusal_by live at
    same None = refl
    same (Some at) = refl
