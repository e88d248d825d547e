-- Refusals and answers by the timelines are those of replay.
use Rattle.std.proofs.Common.{◌≡◌, ◌∙◌, ℕ, List, [], ◌∷◌, ◌++◌, Bool, true, false, cond, map, Option, None, Some, Result, Ok, Err, refl, sym, ap}
use Rattle.std.proofs.lemmas.List.Folds.{flat_map-map}
use Rattle.std.specs.List.{AllByRecursion, filter, flat_map}
use Rattle.std.specs.Option.{option_map}
use Rattle.nm_check.proofs.Presence.{unmarked}
use Rattle.nm_check.specs.Breaks.{first_of, first_statement_break}
use Rattle.nm_check.specs.Edit.{edited_steps}
use Rattle.nm_check.specs.Kept.{due_after, unless_broken}
use Rattle.nm_check.specs.Replay as check
use Rattle.nm_check.specs.Subject.{is_about, lines_of}
use Rattle.nm_check.specs.Timelines as timelines
use Rattle.nm_check.specs.declared.breaks.Break.{Break}
use Rattle.nm_check.specs.declared.breaks.EditError.{EditError}
use Rattle.nm_check.specs.declared.breaks.EditError.TheVariants as edit_error
use Rattle.nm_day.specs.declared.key.Key.{Key}
use Rattle.nm_ident.proofs.Rising.{all_weaker}
use Rattle.nm_ident.specs.declared.ident.Ident.{Ident}
use Rattle.nm_model.specs.declared.document.Full.{Full}
use Rattle.nm_stage.proofs.Lists.{map-map}
use Rattle.nm_stage.specs.Dependencies.{missing_of}
use Rattle.nm_stage.specs.Live.{IsLive}
use Rattle.nm_stage.specs.Project.{PlainProject, PlainStep, model_of, step_of}
use Rattle.nm_stage.specs.Steps.{in_order, steps_of}
use Rattle.nm_statement.specs.Set.{set_of}
use Rattle.nm_statement.specs.declared.statement.Statement.{Statement}
use Rattle.nm_terms.specs.Due.{OrWant}
use Rattle.nm_timeline.specs.Timeline.{PlainTimeline}
use Rattle.nm_timeline.specs.declared.mark.Mark.{Mark}
use Rattle.nm_timeline.specs.declared.part.Part.TheVariants.{Precondition, Reverse, Forward}
use Rattle.nm_version.proofs.Fitting.{fits-unbroken}
use Rattle.nm_version.proofs.Lesser.{by_filing, find_ordered, first_break_is_the_lesser}
use Rattle.nm_version.proofs.Lists.{filter-map}
use Rattle.nm_version.specs.ByTimelines.{entry_lines, lines_told, model_filed, model_or_none, refusal_told, refusal_where, timelines_due, unless_refused}
use Rattle.nm_version.specs.Lesser.{lesser_cause, refusal_by}
use Rattle.nm_version.specs.Replay.{first_break, is_in_service, known_before, statements_at}
use Rattle.nm_version.specs.Timeline.{line_if, named_by, statement_lines, step_lines, timeline_of}
use Rattle.nm_version.specs.Timelines.{timelines_over}
use Rattle.nm_version.specs.declared.line.Line.{Line}
use Rattle.nm_version.specs.declared.line.Line.TheVariants.{Base, Named}
use Rattle.nm_version.specs.declared.refusal.Cause.{Cause}
use Rattle.nm_version.specs.declared.refusal.Cause.TheVariants.{Dependency}
use Rattle.nm_version.specs.declared.refusal.Refusal.{Refusal}
use Rattle.nm_version.specs.declared.refusal.Refusal.TheVariants as refusal

-- ---- the statements of a day

pub days_are : (base : Full) (live : List PlainProject) (day : List ℕ) → statements_at base live day ≡ check.statements_at base.statements (steps_of live) day
days_are base live day =
    ap (check.after_changes base.statements)
    (map-map (λ (step : PlainStep). step.change) step_of (filter (is_in_service day) (in_order live))
    ∙ ap (map (λ (step : PlainStep). step.change)) (filter-map (check.is_in_service day) step_of (in_order live)))

-- ---- the first break

module _ (base : Full) (live : List PlainProject) where
  abbrev missing : Option (Key × ℕ)
  missing = missing_of (known_before base.header) live

  abbrev broken : Option Break
  broken = first_statement_break base.statements (steps_of live)

  nothing_lesser : (at : Key × Cause) → first_break base live ≡ None → lesser_cause missing broken ≡ Some at → Some at ≡ None
  nothing_lesser at none e =
      let fits = fits-unbroken base live none in
      sym e ∙ (λ i. lesser_cause (fits.met i) (first_of (fits.unbroken i)))

  told_at : (at : Key × Cause) → lesser_cause missing broken ≡ Some at → first_break base live ≡ refusal_by live (Some at) → first_break base live ≡ Some (refusal_told live at)
  told_at at e law = by (by_filing live at.0.filing) refl
    where
      by : (found : Option PlainProject) → by_filing live at.0.filing ≡ found → first_break base live ≡ Some (refusal_told live at)
      by (Some p) f =
          law ∙ ap (option_map (λ project. refusal.Step at.0.day (model_of project) at.1)) f
          ∙ ap (λ model. Some (refusal.Step at.0.day model at.1)) (sym (ap model_or_none f))
      by None f =
          absurd (let wrong = nothing_lesser at (law ∙ ap (option_map (λ project. refusal.Step at.0.day (model_of project) at.1)) f) e in cc)

  pub first_break_told : IsLive live → first_break base live ≡ refusal_where live (lesser_cause missing broken)
  first_break_told l = by (lesser_cause missing broken) refl
    where
      by : (at : Option (Key × Cause)) → lesser_cause missing broken ≡ at → first_break base live ≡ refusal_where live at
      by None e = first_break_is_the_lesser base live l ∙ ap (refusal_by live) e
      by (Some at) e = told_at at e (first_break_is_the_lesser base live l ∙ ap (refusal_by live) e)

  -- what an edit gives, and what is missing, are what is due
  pub due_told : IsLive live → (missed : Option (Key × ℕ)) (found : Option Break) → missed ≡ missing → found ≡ broken
      → timelines_due base live ≡ unless_refused (refusal_where live (lesser_cause missed found)) (timelines_over base live)
  due_told l missed found e f =
      ap (λ refused. unless_refused refused (timelines_over base live))
      (first_break_told l ∙ (λ i. refusal_where live (lesser_cause (sym e i) (sym f i))))

-- ---- what results tell

abbrev TheTimelines : Type 0
TheTimelines = List (Statement × PlainTimeline)

pub unbroken_ok : (found : Option Break) (those given : TheTimelines) → unless_broken found those ≡ Ok given → (found ≡ None) × (those ≡ given)
unbroken_ok None those given e = (refl, let same : those ≡ given = cc in same)
unbroken_ok (Some b) those given e = absurd (let wrong = e in cc)

pub broken_err : (found : Option Break) (those : TheTimelines) (b : Break) → unless_broken found those ≡ Err (edit_error.Break b) → found ≡ Some b
broken_err None those b e = absurd (let wrong = e in cc)
broken_err (Some c) those b e = let same : c ≡ b = cc in ap Some same

pub unrefused_ok : (found : Option Refusal) (those given : TheTimelines) → unless_refused found those ≡ Ok given → (found ≡ None) × (those ≡ given)
unrefused_ok None those given e = (refl, let same : those ≡ given = cc in same)
unrefused_ok (Some r) those given e = absurd (let wrong = e in cc)

pub refused_err : (found : Option Refusal) (those : TheTimelines) (r : Refusal) → unless_refused found those ≡ Err r → found ≡ Some r
refused_err None those r e = absurd (let wrong = e in cc)
refused_err (Some s) those r e = let same : s ≡ r = cc in ap Some same

pub want_weaker : (b : Bool) (P Q : Type 0) → (P → Q) → OrWant b P → OrWant b Q
want_weaker true P Q f h = tt
want_weaker false P Q f h = f h

pub want_join : (b : Bool) (P Q : Type 0) → (P → OrWant b Q) → OrWant b P → OrWant b Q
want_join true P Q f h = tt
want_join false P Q f h = f h

pub want_from : (b : Bool) (P : Type 0) → P → OrWant b P
want_from true P h = tt
want_from false P h = h

-- an edit of steps that leaves these live projects
module _ (base : Full) (live : List PlainProject) (l : IsLive live) (remove add before : List PlainStep) (edited : steps_of live ≡ edited_steps remove add before)
    (missed : Option (Key × ℕ)) (e : missed ≡ missing_of (known_before base.header) live) where
  abbrev due : Result TheTimelines EditError
  due = due_after base.statements remove add before

  found_is : (found : Option Break) → first_statement_break base.statements (edited_steps remove add before) ≡ found → found ≡ first_statement_break base.statements (steps_of live)
  found_is found f = sym f ∙ ap (first_statement_break base.statements) (sym edited)

  pub timelines_given : (given : TheTimelines) → due ≡ Ok given → missed ≡ None → timelines_due base live ≡ Ok given
  timelines_given given d none =
      let both = unbroken_ok _ _ given d in
      due_told base live l None None (sym none ∙ e) (found_is None both.0) ∙ ap Ok (ap (timelines.timelines_of base.statements) edited ∙ both.1)

  pub missing_refused : (given : TheTimelines) → due ≡ Ok given → (at : Key × ℕ) → missed ≡ Some at → timelines_due base live ≡ Err (refusal_told live (at.0, Dependency at.1))
  missing_refused given d at some = due_told base live l (Some at) None (sym some ∙ e) (found_is None (unbroken_ok _ _ given d).0)

  pub break_refused : (b : Break) → due ≡ Err (edit_error.Break b) → (r : Refusal) → Some r ≡ refusal_where live (lesser_cause missed (Some b)) → timelines_due base live ≡ Err r
  break_refused b d r h =
      due_told base live l missed (Some b) e (found_is (Some b) (broken_err _ _ b d))
      ∙ ap (λ refused. unless_refused refused (timelines_over base live)) (sym h)

-- ---- lines

module _ (live : List PlainProject) (s : Statement) where
  -- the current model of the project is found by its filing number
  abbrev HasModel : PlainProject → Type 0
  HasModel p = model_filed live p.filing ≡ model_of p

  abbrev lines_by : List ℕ → ℕ → Mark → List Line
  lines_by day model mark =
      line_if mark.pre (Named day model Precondition s) ++ line_if mark.rev (Named day model Reverse s) ++ line_if mark.fwd (Named day model Forward s)

  entries_told : (ps : List PlainProject) → AllByRecursion HasModel ps → flat_map (entry_lines live s) (timelines.entries_of (map step_of ps) s) ≡ flat_map (step_lines s) ps
  entries_told [] a = refl
  entries_told (p ∷ ps) a = by (timelines.is_named p.change s) refl (entries_told ps a.1)
    where
      later : List PlainStep
      later = filter (λ step. timelines.is_named step.change s) (map step_of ps)

      by : (b : Bool) → timelines.is_named p.change s ≡ b → flat_map (entry_lines live s) (map (timelines.entry_of s) later) ≡ flat_map (step_lines s) ps
          → flat_map (entry_lines live s) (map (timelines.entry_of s) (cond (timelines.is_named p.change s) (step_of p ∷ later) later)) ≡ step_lines s p ++ flat_map (step_lines s) ps
      by true e h =
          (λ i. flat_map (entry_lines live s) (map (timelines.entry_of s) (cond (e i) (step_of p ∷ later) later)))
          ∙ (λ i. lines_by p.day (a.0 i) (timelines.mark_of p.change s) ++ h i)
      by false e h =
          (λ i. flat_map (entry_lines live s) (map (timelines.entry_of s) (cond (e i) (step_of p ∷ later) later)))
          ∙ (λ i. lines_by p.day (model_of p) (sym (unmarked p.change s e) i) ++ h i)

module _ (base : Full) (live : List PlainProject) (l : IsLive live) where
  have_models : (s : Statement) → AllByRecursion (HasModel live s) (in_order live)
  have_models s = all_weaker (λ p. by_filing live p.filing ≡ Some p) (HasModel live s) (λ p e. ap model_or_none e) (in_order live) (find_ordered live l)

  statement_told : (s : Statement) → lines_told live (s, timelines.timeline_of base.statements (steps_of live) s) ≡ statement_lines base.statements (in_order live) s
  statement_told s = ap (λ lines. step_line ++ lines) (entries_told live s (in_order live) (have_models s))
    where
      step_line : List Line
      step_line = line_if (timelines.timeline_of base.statements (steps_of live) s).base (Base s)

  same_names : timelines.named_by base.statements (steps_of live) ≡ named_by base.statements (in_order live)
  same_names = ap (λ names. set_of (base.statements ++ names)) (flat_map-map (λ (step : PlainStep). timelines.names_of step.change) step_of (in_order live))

  pub lines_are : (subject : Ident) (those : TheTimelines) → those ≡ timelines_over base live → flat_map (lines_told live) (lines_of subject those) ≡ timeline_of base live subject
  lines_are subject those e =
      ap (λ ts. flat_map (lines_told live) (lines_of subject ts)) e
      ∙ ap (flat_map (lines_told live)) (sym (filter-map (λ pair. is_about subject pair.0) given (timelines.named_by base.statements (steps_of live))))
      ∙ flat_map-map (lines_told live) given (filter (is_about subject) (timelines.named_by base.statements (steps_of live)))
      ∙ (λ i. flat_map (λ s. statement_told s i) (filter (is_about subject) (same_names i)))
    where
      given : Statement → Statement × PlainTimeline
      given s = (s, timelines.timeline_of base.statements (steps_of live) s)
