-- A statement is there exactly where its timeline says so.
use Rattle.std.proofs.Common.{◌≡◌, ◌∙◌, ℕ, List, [], ◌∷◌, Bool, true, false, ◌||◌, cond, map, refl, sym, ap}
use Rattle.std.specs.List.{filter, fold}
use Rattle.nm_check.specs.Laws.{PresenceIsByTimelines}
use Rattle.nm_check.specs.Replay.{after_changes, changes_of, in_service, is_in_service, set_after}
use Rattle.nm_check.specs.Timelines.{entries_of, entry_of, is_named, mark_of}
use Rattle.nm_stage.specs.Project.{PlainStep}
use Rattle.nm_statement.proofs.Sets.{has-minus_of, has-union_of}
use Rattle.nm_statement.specs.Set.{has, minus_of}
use Rattle.nm_statement.specs.declared.set.Change.{Change}
use Rattle.nm_statement.specs.declared.statement.Statement.{Statement}
use Rattle.nm_timeline.specs.Timeline.{is_by, marked, present_after}
use Rattle.nm_timeline.specs.declared.mark.Mark.{Mark}

-- ---- one change

pub has-set_after : (set : List Statement) (change : Change) (s : Statement) → has (set_after set change) s ≡ marked (has set s) (mark_of change s)
has-set_after set change s =
    has-union_of (minus_of set change.rev) change.fwd s ∙ ap (λ b. b || has change.fwd s) (has-minus_of set change.rev s)

pub or_none : (a b : Bool) → (a || b) ≡ false → (a ≡ false) × (b ≡ false)
or_none true b e = absurd cc
or_none false b e = (refl, e)

abbrev pub mark : Bool → Bool → Bool → Mark
mark pre rev fwd = record { pre = pre; rev = rev; fwd = fwd }

pub unmarked : (change : Change) (s : Statement) → is_named change s ≡ false → mark_of change s ≡ mark false false false
unmarked change s e =
    let first = or_none (has change.pre s) (has change.rev s || has change.fwd s) e in
    let others = or_none (has change.rev s) (has change.fwd s) first.1 in
    λ i. mark (first.0 i) (others.0 i) (others.1 i)

pub stays : (present : Bool) → marked present (mark false false false) ≡ present
stays true = refl
stays false = refl

-- ---- steps

abbrev marks_in : List PlainStep → Statement → List Mark
marks_in steps s = map (λ change. mark_of change s) (changes_of steps)

pub has-after_changes : (set : List Statement) (steps : List PlainStep) (s : Statement)
    → has (after_changes set (changes_of steps)) s ≡ fold marked (has set s) (marks_in steps s)
has-after_changes set [] s = refl
has-after_changes set (step ∷ steps) s =
    has-after_changes (set_after set step.change) steps s ∙ ap (λ b. fold marked b (marks_in steps s)) (has-set_after set step.change s)

-- only the entries of the steps in service count
entries_decide : (day : List ℕ) (s : Statement) (steps : List PlainStep) (present : Bool)
    → fold marked present (marks_in (in_service steps day) s) ≡ present_after present (filter (is_by day) (entries_of steps s))
entries_decide day s [] present = refl
entries_decide day s (step ∷ steps) present =
    by (entries_decide day s steps) (is_in_service day step) (is_named step.change s) refl refl
  where
    by : ((p : Bool) → fold marked p (marks_in (in_service steps day) s) ≡ present_after p (filter (is_by day) (entries_of steps s)))
        → (b n : Bool) → is_in_service day step ≡ b → is_named step.change s ≡ n
        → fold marked present (marks_in (cond b (step ∷ in_service steps day) (in_service steps day)) s)
        ≡ present_after present (filter (is_by day) (map (entry_of s) (cond n (step ∷ filter (λ one. is_named one.change s) steps) (filter (λ one. is_named one.change s) steps))))
    by later true true e f =
        later (marked present (mark_of step.change s))
        ∙ (λ i. present_after present (cond (sym e i) (entry_of s step ∷ filter (is_by day) (entries_of steps s)) (filter (is_by day) (entries_of steps s))))
    by later true false e f =
        (λ i. fold marked (marked present (unmarked step.change s f i)) (marks_in (in_service steps day) s))
        ∙ ap (λ b. fold marked b (marks_in (in_service steps day) s)) (stays present)
        ∙ later present
    by later false true e f =
        later present
        ∙ (λ i. present_after present (cond (sym e i) (entry_of s step ∷ filter (is_by day) (entries_of steps s)) (filter (is_by day) (entries_of steps s))))
    by later false false e f = later present

pub presence_is_by_timelines : PresenceIsByTimelines
presence_is_by_timelines base steps day s =
    has-after_changes base (in_service steps day) s ∙ entries_decide day s steps (has base s)
