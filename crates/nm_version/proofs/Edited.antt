-- Accepted commands edit the steps of the live projects.
use Rattle.std.proofs.Common.{◌≡◌, ◌∙◌, ℕ, ◌+◌, ◌<◌, ◌≤◌, List, [], ◌∷◌, Contains, Bool, true, false, ◌||◌, not, cond, ◌==◌, Option, None, Some, Ordering, nat_cmp, map, refl, sym, ap, subst, arith}
use Rattle.std.proofs.lemmas.Bool.Decides.{nat_tests}
use Rattle.std.proofs.lemmas.Cmp.{tied_itself}
use Rattle.std.proofs.lemmas.List.Elements.{All-contains_itself, All-from_recursion, recursion_from_All}
use Rattle.std.proofs.lemmas.List.Sorted.{All-permutation, IsPermutation-sym}
use Rattle.std.specs.Cmp.{ranked}
use Rattle.std.specs.List.{AllByRecursion, IsDistinct, filter}
use Rattle.std.specs.List.Sorted.{IsStrictlySortedBy}
use Rattle.std.specs.Ordering.{eq_by_cmp, is_eq, is_gt, ordering_reverse}
use Rattle.std.specs.declared.cmp.Ordering.TheVariants.{Less, Equal, Greater}
use Rattle.nm_check.proofs.Edits.{step_cmp-total}
use Rattle.nm_check.proofs.Rising.{all_map}
use Rattle.nm_check.specs.Edit.{edited_steps, is_step_taken, keys_of, without_steps}
use Rattle.nm_check.specs.Kept.{AreTimelinesOf}
use Rattle.nm_check.specs.Replay.{AreSteps, HasSets, step_cmp}
use Rattle.nm_day.proofs.Orders.{key_cmp-total}
use Rattle.nm_day.specs.Key.{key_cmp}
use Rattle.nm_ident.proofs.Rising.{all_weaker, filter_alike, rises-from_test}
use Rattle.nm_model.specs.declared.document.Difference.{Difference}
use Rattle.nm_model.specs.declared.document.Document.{Document}
use Rattle.nm_model.specs.declared.document.Document.TheVariants as document
use Rattle.nm_reader.proofs.KeptModels.{stated_models_are_kept}
use Rattle.nm_reader.proofs.Spellings.{and_left, and_right}
use Rattle.nm_reader.specs.Input.{IsDocumentOf}
use Rattle.nm_stage.proofs.Changes.{with_in_order, without_in_order}
use Rattle.nm_stage.proofs.Lives.{other}
use Rattle.nm_stage.proofs.Orders.{live_projects_stand_in_order, not_level, project_cmp-total}
use Rattle.nm_stage.proofs.Sorting.{placed_is}
use Rattle.nm_stage.specs.Live.{IsLive, project_of, with_project, without_filing}
use Rattle.nm_stage.specs.Project.{PlainProject, PlainStep, id_of, key_of, step_of}
use Rattle.nm_stage.specs.Sorted.{placed_by}
use Rattle.nm_stage.specs.Steps.{in_order, project_cmp, steps_of}
use Rattle.nm_statement.proofs.Orders.{statement_cmp-total}
use Rattle.nm_statement.specs.Order.{statement_cmp}
use Rattle.nm_statement.specs.Set.{IsRising}
use Rattle.nm_statement.specs.Sound.{is_sound_set}
use Rattle.nm_statement.specs.declared.set.Change.{Change}
use Rattle.nm_statement.specs.declared.statement.Statement.{Statement}
use Rattle.nm_timeline.specs.Timeline.{PlainTimeline, has_key}
use Rattle.nm_version.proofs.Commits.{allowed}
use Rattle.nm_version.proofs.Filings.{all_filtered, all_replaced, are_numbers, of_found}
use Rattle.nm_version.proofs.Lesser.{by_filing, find_own}
use Rattle.nm_version.proofs.Lists.{filter-map}
use Rattle.nm_version.proofs.Reached.{AllAccepted, after_accepted, live, none_refused}
use Rattle.nm_version.specs.After.{IsReached, accepted, after_all}
use Rattle.nm_version.specs.Changed.{live_after, live_redated, live_revised, live_withdrawn, project_filed, project_redated, project_revised}
use Rattle.nm_version.specs.Command.{IsSpelt}
use Rattle.nm_version.specs.Edits.{CommandsEditSteps, IsEdit, own_step, step_redated, step_revised}
use Rattle.nm_version.specs.Kept.{Kept, number_of, opened}
use Rattle.nm_version.specs.Refusal.{kind_of, unknown_of}
use Rattle.nm_version.specs.Timelines.{timelines_over}
use Rattle.nm_version.specs.declared.command.Command.{Command}
use Rattle.nm_version.specs.declared.command.Command.TheVariants.{File, Revise, Redate, Withdraw}

-- ---- changes of live projects are of sets

abbrev pub OfSets : PlainProject → Type 0
OfSets project = HasSets (step_of project)

set_rises : (statements : List Statement) → is_sound_set statements ≡ true → IsRising statements
set_rises statements e = rises-from_test statement_cmp statement_cmp-total statements (and_left _ _ e)

-- the sections of a document are sets
sections_rise : (bytes : List ℕ) (difference : Difference) → IsDocumentOf bytes (document.Difference difference) → (step : PlainStep) → step.change ≡ difference.change → HasSets step
sections_rise bytes difference spelt step e =
    let kept = stated_models_are_kept bytes (document.Difference difference) spelt in
    let change = and_right _ _ (and_left _ _ kept) in
    record {
      pre = subst (λ (c : Change). IsRising c.pre) (sym e) (set_rises difference.change.pre (and_left _ _ (and_left _ _ change)));
      rev = subst (λ (c : Change). IsRising c.rev) (sym e) (set_rises difference.change.rev (and_right _ _ (and_left _ _ change)));
      fwd = subst (λ (c : Change). IsRising c.fwd) (sym e) (set_rises difference.change.fwd (and_right _ _ change));
    }

module _ (projects : List PlainProject) (all : AllByRecursion OfSets projects) where
  sets_revised : (id : ℕ) (model : Document) (bytes : List ℕ) → IsDocumentOf bytes model → (found : Option PlainProject) → AllByRecursion OfSets (live_revised model found projects)
  sets_revised id model bytes spelt None = all
  sets_revised id (document.Full full) bytes spelt (Some project) = all
  sets_revised id (document.Difference difference) bytes spelt (Some project) =
      all_replaced OfSets (project_revised difference project) projects all (sections_rise bytes difference spelt (step_of (project_revised difference project)) refl)

  sets_redated : (id : ℕ) (day : List ℕ) (found : Option PlainProject) → project_of id projects ≡ found → AllByRecursion OfSets (live_redated day found projects)
  sets_redated id day None e = all
  sets_redated id day (Some project) e =
      let own = of_found OfSets (λ one. id_of one == id) projects project all e in
      all_replaced OfSets (project_redated day project) projects all (record { pre = own.pre; rev = own.rev; fwd = own.fwd })

  sets_withdrawn : (found : Option PlainProject) → AllByRecursion OfSets (live_withdrawn found projects)
  sets_withdrawn None = all
  sets_withdrawn (Some project) = all_filtered OfSets (other project.filing) projects all

sets_after : (kept : Kept) (command : Command) → IsSpelt command → AllByRecursion OfSets kept.live → AllByRecursion OfSets (live_after kept command)
sets_after kept (File day (document.Full full) bytes) spelt all = all
sets_after kept (File day (document.Difference difference) bytes) spelt all =
    let project = project_filed (number_of kept + 1) day difference in
    all_replaced OfSets project kept.live all (sections_rise bytes difference spelt (step_of project) refl)
sets_after kept (Revise id model bytes) spelt all = sets_revised kept.live all id model bytes spelt (project_of id kept.live)
sets_after kept (Redate id day) spelt all = sets_redated kept.live all id day (project_of id kept.live) refl
sets_after kept (Withdraw id) spelt all = sets_withdrawn kept.live all (project_of id kept.live)

sets_after_all : (kept : Kept) (commands : List Command) → AllByRecursion OfSets kept.live → AllByRecursion IsSpelt commands → AllAccepted kept commands
    → AllByRecursion OfSets (after_all kept commands).live
sets_after_all kept [] all spelt accepts = all
sets_after_all kept (command ∷ commands) all spelt accepts =
    subst (λ (k : Kept). AllByRecursion OfSets (after_all k commands).live) (sym (after_accepted kept command accepts.0))
    (sets_after_all (accepted kept command) commands (sets_after kept command spelt.0 all) spelt.1 accepts.1)

pub of_sets : (kept : Kept) → IsReached kept → AllByRecursion OfSets kept.live
of_sets kept r = subst (λ (k : Kept). AllByRecursion OfSets k.live) r.reached (sets_after_all (opened kept.base kept.bytes) r.commands tt r.spelt (none_refused kept r))

-- ---- steps of projects in order

module _ (projects : List PlainProject) (is : IsLive projects) where
  -- what holds of the projects holds of them in order, and the other way round
  ordered : (P : PlainProject → Type 0) → AllByRecursion P projects → AllByRecursion P (in_order projects)
  ordered P a = recursion_from_All P (in_order projects) (All-permutation P projects (in_order projects) (live_projects_stand_in_order projects is).all (All-from_recursion P projects a))

  unordered : (P : PlainProject → Type 0) → AllByRecursion P (in_order projects) → AllByRecursion P projects
  unordered P a =
      recursion_from_All P projects
      (All-permutation P (in_order projects) projects (IsPermutation-sym projects (in_order projects) (live_projects_stand_in_order projects is).all) (All-from_recursion P (in_order projects) a))

  rising_steps : (ps : List PlainProject) → IsStrictlySortedBy project_cmp ps → IsStrictlySortedBy step_cmp (map step_of ps)
  unfolding IsStrictlySortedBy
  rising_steps [] s = tt
  rising_steps (p ∷ ps) s = (all_map (λ step. step_cmp (step_of p) step ≡ Less) step_of ps s.0, rising_steps ps s.1)

  pub are_steps : AllByRecursion OfSets projects → AreSteps (steps_of projects)
  are_steps sets = record {
    order = rising_steps (in_order projects) (live_projects_stand_in_order projects is).rising;
    sets = all_map HasSets step_of (in_order projects) (ordered OfSets sets);
  }

  contained : (ps : List PlainProject) (steps : List PlainStep) → AllByRecursion (Contains steps) (map step_of ps) → AllByRecursion (λ p. Contains steps (step_of p)) ps
  contained [] steps a = tt
  contained (p ∷ ps) steps a = (a.0, contained ps steps a.1)

  -- a live project's step is one of the steps
  own_contained : AllByRecursion (λ p. Contains (steps_of projects) (step_of p)) projects
  own_contained =
      unordered (λ p. Contains (steps_of projects) (step_of p))
      (contained (in_order projects) (steps_of projects) (recursion_from_All (Contains (steps_of projects)) (steps_of projects) (All-contains_itself (steps_of projects))))

-- ---- keys of projects

-- projects of different filing numbers stand at different keys
apart : (p q : PlainProject) → not (q.filing == p.filing) ≡ true → eq_by_cmp project_cmp p q ≡ false
apart p q differ = by (nat_cmp p.filing q.filing) refl
  where
    turned : (r : Ordering) → is_eq (ordering_reverse r) ≡ is_eq r
    turned Less = refl
    turned Equal = refl
    turned Greater = refl

    by : (r : Ordering) → nat_cmp p.filing q.filing ≡ r → eq_by_cmp project_cmp p q ≡ false
    by Less e = not_level p q e
    by Equal e = absurd (let same : p.filing ≡ q.filing = ranked p.filing q.filing Equal (sym e) in grind (arith, nat_tests))
    by Greater e =
        let below : q.filing < p.filing = ranked p.filing q.filing Greater (sym e) in
        ap is_eq (project_cmp-total.antisymm p q) ∙ turned (project_cmp q p) ∙ not_level q p (grind (arith, nat_tests))

others_apart : (p : PlainProject) (ps : List PlainProject) → AllByRecursion (λ q. eq_by_cmp project_cmp p q ≡ false) (filter (other p.filing) ps)
others_apart p [] = tt
others_apart p (q ∷ qs) = by (other p.filing q) refl (others_apart p qs)
  where
    by : (b : Bool) → other p.filing q ≡ b → AllByRecursion (λ one. eq_by_cmp project_cmp p one ≡ false) (filter (other p.filing) qs)
        → AllByRecursion (λ one. eq_by_cmp project_cmp p one ≡ false) (cond b (q ∷ filter (other p.filing) qs) (filter (other p.filing) qs))
    by true e h = (apart p q e, h)
    by false e h = h

-- a step is not taken where none is level with it
not_taken : (step : PlainStep) (steps : List PlainStep) → AllByRecursion (λ one. eq_by_cmp step_cmp step one ≡ false) steps → is_step_taken steps step ≡ false
not_taken step [] a = refl
not_taken step (one ∷ others) a = λ i. a.0 i || not_taken step others a.1 i

placed_steps : (p : PlainProject) (ps : List PlainProject) → map step_of (placed_by project_cmp ps p) ≡ placed_by step_cmp (map step_of ps) (step_of p)
placed_steps p [] = refl
placed_steps p (q ∷ qs) = by (is_gt (project_cmp p q)) (placed_steps p qs)
  where
    by : (gt : Bool) → map step_of (placed_by project_cmp qs p) ≡ placed_by step_cmp (map step_of qs) (step_of p)
        → map step_of (cond gt (q ∷ placed_by project_cmp qs p) (p ∷ q ∷ qs)) ≡ cond gt (step_of q ∷ placed_by step_cmp (map step_of qs) (step_of p)) (step_of p ∷ step_of q ∷ map step_of qs)
    by true h = ap (λ l. step_of q ∷ l) h
    by false h = refl

-- ---- what is left

-- the keys that go are those of the projects of a filing number
abbrev GoBy : ℕ → List PlainStep → PlainProject → Type 0
GoBy filing remove p = other filing p ≡ not (has_key (keys_of remove) (key_of p))

module _ (projects : List PlainProject) (is : IsLive projects) (filing : ℕ) (remove : List PlainStep) (go : AllByRecursion (GoBy filing remove) projects) where
  left : steps_of (without_filing filing projects) ≡ without_steps remove (steps_of projects)
  left =
      ap (map step_of) (without_in_order filing projects is.rising)
      ∙ ap (map step_of) (filter_alike (other filing) (λ p. not (has_key (keys_of remove) (key_of p))) (in_order projects) (ordered projects is (GoBy filing remove) go))
      ∙ filter-map (λ step. not (has_key (keys_of remove) step.key)) step_of (in_order projects)

  -- one project more, at a key that is free
  module _ (p : PlainProject) (same : p.filing ≡ filing) where
    none_at : AllByRecursion (λ step. eq_by_cmp step_cmp (step_of p) step ≡ false) (without_steps remove (steps_of projects))
    none_at =
        subst (AllByRecursion (λ step. eq_by_cmp step_cmp (step_of p) step ≡ false)) (ap (map step_of) (sym (without_in_order filing projects is.rising)) ∙ left)
        (all_map (λ step. eq_by_cmp step_cmp (step_of p) step ≡ false) step_of (filter (other filing) (in_order projects))
        (subst (λ n. AllByRecursion (λ q. eq_by_cmp project_cmp p q ≡ false) (filter (other n) (in_order projects))) same (others_apart p (in_order projects))))

    pub free : is_step_taken (without_steps remove (steps_of projects)) (step_of p) ≡ false
    free = not_taken (step_of p) (without_steps remove (steps_of projects)) none_at

    pub joined : steps_of (with_project p projects) ≡ edited_steps remove (step_of p ∷ []) (steps_of projects)
    joined =
        ap (map step_of) (with_in_order p projects is.rising)
        ∙ placed_steps p (in_order (without_filing p.filing projects))
        ∙ ap (λ n. placed_by step_cmp (steps_of (without_filing n projects)) (step_of p)) same
        ∙ ap (λ l. placed_by step_cmp l (step_of p)) left
        ∙ placed_is step_cmp-total (without_steps remove (steps_of projects)) (step_of p) none_at

-- ---- edits of a live list

alone : (step : PlainStep) → IsDistinct (eq_by_cmp step_cmp) (step ∷ [])
unfolding IsDistinct
alone step = (tt, tt)

-- no key goes, where no project has the filing number
none_go : (filing : ℕ) (ps : List PlainProject) → AllByRecursion (λ p. p.filing < filing) ps → AllByRecursion (GoBy filing []) ps
none_go filing [] a = tt
none_go filing (p ∷ ps) a = (let below : p.filing < filing = a.0 in grind (arith, nat_tests), none_go filing ps a.1)

module _ (projects : List PlainProject) (is : IsLive projects) (sets : AllByRecursion OfSets projects) where
  -- a project with a filing number above all others
  pub filing_edits : (p : PlainProject) → OfSets p → AllByRecursion (λ q. q.filing < p.filing) projects → IsEdit [] (step_of p ∷ []) (steps_of projects) (steps_of (with_project p projects))
  filing_edits p own below =
      let go = none_go p.filing projects below in
      record {
        steps = are_steps projects is sets;
        can = record { removed = tt; apart = alone (step_of p); free = (free projects is p.filing [] go p refl, tt); sets = (own, tt) };
        edited = joined projects is p.filing [] go p refl;
      }

  module _ (id : ℕ) (old : PlainProject) (found : project_of id projects ≡ Some old) where
    own_number : by_filing projects old.filing ≡ Some old
    own_number = of_found (λ p. by_filing projects p.filing ≡ Some p) (λ one. id_of one == id) projects old (find_own projects is.rising) found

    -- the key of the project alone goes
    goes_at : (p : PlainProject) → by_filing projects p.filing ≡ Some p → GoBy old.filing (step_of old ∷ []) p
    goes_at p e = by (p.filing == old.filing) refl
      where
        by : (b : Bool) → (p.filing == old.filing) ≡ b → not b ≡ not (eq_by_cmp key_cmp (key_of old) (key_of p) || false)
        by true same =
            let number : p.filing ≡ old.filing = grind (arith, nat_tests) in
            let one : ◌≡◌ {A = Option PlainProject} (Some p) (Some old) = sym e ∙ ap (by_filing projects) number ∙ own_number in
            let it : p ≡ old = cc in
            sym (ap (λ (q : PlainProject). not (is_eq (key_cmp (key_of old) (key_of q)) || false)) it ∙ ap (λ r. not (is_eq r || false)) (tied_itself key_cmp-total (key_of old)))
        by false differ = sym (ap (λ b. not (b || false)) (apart old p (ap not differ)))

    go_own : AllByRecursion (GoBy old.filing (step_of old ∷ [])) projects
    go_own = all_weaker (λ p. by_filing projects p.filing ≡ Some p) (GoBy old.filing (step_of old ∷ [])) goes_at projects (find_own projects is.rising)

    taken : Contains (steps_of projects) (step_of old)
    taken = of_found (λ p. Contains (steps_of projects) (step_of p)) (λ one. id_of one == id) projects old (own_contained projects is) found

    -- a project in the place of one
    pub changing_edits : (new : PlainProject) → OfSets new → new.filing ≡ old.filing → IsEdit (step_of old ∷ []) (step_of new ∷ []) (steps_of projects) (steps_of (with_project new projects))
    changing_edits new own same = record {
      steps = are_steps projects is sets;
      can = record { removed = (taken, tt); apart = alone (step_of new); free = (free projects is old.filing (step_of old ∷ []) go_own new same, tt); sets = (own, tt) };
      edited = joined projects is old.filing (step_of old ∷ []) go_own new same;
    }

    -- without one
    pub taking_edits : IsEdit (step_of old ∷ []) [] (steps_of projects) (steps_of (without_filing old.filing projects))
    unfolding IsDistinct
    taking_edits = record {
      steps = are_steps projects is sets;
      can = record { removed = (taken, tt); apart = tt; free = tt; sets = tt };
      edited = left projects is old.filing (step_of old ∷ []) go_own;
    }

-- ---- commands

module _ (kept : Kept) (r : IsReached kept) where
  abbrev is : IsLive kept.live
  is = live kept r

  revised : (id : ℕ) (model : Document) (bytes : List ℕ) → IsDocumentOf bytes model → kind_of model ≡ None → (found : Option PlainProject) → project_of id kept.live ≡ found → unknown_of id found ≡ None
      → IsEdit (own_step found) (step_revised model found) (steps_of kept.live) (steps_of (live_revised model found kept.live))
  revised id model bytes spelt kind None e known = absurd (let wrong = known in cc)
  revised id (document.Full full) bytes spelt kind (Some project) e known = absurd (let wrong = kind in cc)
  revised id (document.Difference difference) bytes spelt kind (Some project) e known =
      changing_edits kept.live is (of_sets kept r) id project e (project_revised difference project) (sections_rise bytes difference spelt (step_of (project_revised difference project)) refl) refl

  redated : (id : ℕ) (day : List ℕ) (found : Option PlainProject) → project_of id kept.live ≡ found → unknown_of id found ≡ None
      → IsEdit (own_step found) (step_redated day found) (steps_of kept.live) (steps_of (live_redated day found kept.live))
  redated id day None e known = absurd (let wrong = known in cc)
  redated id day (Some project) e known =
      let own = of_found OfSets (λ one. id_of one == id) kept.live project (of_sets kept r) e in
      changing_edits kept.live is (of_sets kept r) id project e (project_redated day project) (record { pre = own.pre; rev = own.rev; fwd = own.fwd }) refl

  withdrawn : (id : ℕ) (found : Option PlainProject) → project_of id kept.live ≡ found → unknown_of id found ≡ None
      → IsEdit (own_step found) [] (steps_of kept.live) (steps_of (live_withdrawn found kept.live))
  withdrawn id None e known = absurd (let wrong = known in cc)
  withdrawn id (Some project) e known = taking_edits kept.live is (of_sets kept r) id project e

pub commands_edit_steps : CommandsEditSteps
commands_edit_steps kept (File day (document.Full full) bytes) r spelt early = absurd (let a = allowed kept (File day (document.Full full) bytes) early in let wrong = a.kind in cc)
commands_edit_steps kept (File day (document.Difference difference) bytes) r spelt early =
    let project = project_filed (number_of kept + 1) day difference in
    filing_edits kept.live (live kept r) (of_sets kept r) project (sections_rise bytes difference spelt (step_of project) refl)
    (all_weaker (λ one. one.filing ≤ number_of kept) (λ one. one.filing < number_of kept + 1) (λ one e. omega (arith, e)) kept.live (are_numbers kept r))
commands_edit_steps kept (Revise id model bytes) r spelt early =
    let a = allowed kept (Revise id model bytes) early in
    revised kept r id model bytes spelt a.kind (project_of id kept.live) refl a.unknown
commands_edit_steps kept (Redate id day) r spelt early =
    let a = allowed kept (Redate id day) early in
    redated kept r id day (project_of id kept.live) refl a.unknown
commands_edit_steps kept (Withdraw id) r spelt early =
    let a = allowed kept (Withdraw id) early in
    withdrawn kept r id (project_of id kept.live) refl a.unknown

-- ---- the timelines of what is reached

pub timelines_kept : (kept : Kept) (timelines : List (Statement × PlainTimeline)) → IsReached kept → timelines ≡ timelines_over kept.base kept.live → IsRising kept.base.statements
    → AreTimelinesOf kept.base.statements (steps_of kept.live) timelines
timelines_kept kept timelines r timed rising = record {
  rising = rising;
  are = are_steps kept.live (live kept r) (of_sets kept r);
  timelines_are = timed;
}
