-- The timeline of each statement among those of a base and steps, and among edited ones.
use Rattle.std.proofs.Common.{◌≡◌, ◌∙◌, List, [], ◌∷◌, ◌++◌, Bool, true, false, ◌&&◌, ◌||◌, not, cond, if◌then◌else◌, map, Option, None, Some, refl, sym, ap}
use Rattle.std.proofs.lemmas.List.Folds.{list_any-append}
use Rattle.std.proofs.lemmas.Map.Views.{tells_apart}
use Rattle.std.specs.List.{filter}
use Rattle.std.specs.List.Sorted.{IsStrictlySortedBy}
use Rattle.std.specs.Option.{unwrap_or}
use Rattle.std.specs.declared.cmp.Ordering.TheVariants.{Less}
use Rattle.nm_check.proofs.Lookups.{value-with_pair, value-without}
use Rattle.nm_check.proofs.Named.{has-named_by, has-named_by_steps}
use Rattle.nm_check.proofs.Rising.{all_map}
use Rattle.nm_check.specs.Timelines.{entries_of, entry_of, is_named, is_named_in, named_by, named_by_steps, timeline_of, timelines_of}
use Rattle.nm_check.specs.Touched as spec
use Rattle.nm_check.specs.Touched.{blank, has_none, is_blank, timeline_at, touched_by, with_timeline}
use Rattle.nm_day.specs.declared.key.Key.{Key}
use Rattle.nm_stage.specs.Project.{PlainStep}
use Rattle.nm_statement.proofs.Orders.{statement_cmp-equal, statement_cmp-total}
use Rattle.nm_statement.proofs.Sets.{has-set_of, rising-set_of}
use Rattle.nm_statement.specs.Order.{statement_cmp}
use Rattle.nm_statement.specs.Set.{has, is_same}
use Rattle.nm_statement.specs.declared.statement.Statement.{Statement}
use Rattle.nm_timeline.specs.Timeline.{PlainTimeline}
use Rattle.nm_timeline.specs.declared.mark.Mark.{Mark}
use Rattle.nm_tree.specs.Pairs.{IsRising, value_at, with_pair, without}

-- a timeline where it is kept
abbrev pub kept : PlainTimeline → Option PlainTimeline
kept timeline = cond (is_blank timeline) None (Some timeline)

pub kept_back : (timeline : PlainTimeline) → unwrap_or (kept timeline) blank ≡ timeline
kept_back timeline = by timeline.base timeline.entries
  where
    by : (base : Bool) (entries : List (Key × Mark))
        → unwrap_or (kept (record { base = base; entries = entries })) blank ≡ record { base = base; entries = entries }
    by true entries = refl
    by false [] = refl
    by false (e ∷ es) = refl

-- ---- of a base and steps

module _ {V : Type 0} (given : Statement → V) where
  value_of_given : (ss : List Statement) (s : Statement) → value_at statement_cmp s (map (λ x. (x, given x)) ss) ≡ cond (has ss s) (Some (given s)) None
  value_of_given [] s = refl
  value_of_given (x ∷ xs) s = by (is_same s x) refl (value_of_given xs s)
    where
      by : (b : Bool) → is_same s x ≡ b → value_at statement_cmp s (map (λ y. (y, given y)) xs) ≡ cond (has xs s) (Some (given s)) None
          → cond b (Some (given x)) (value_at statement_cmp s (map (λ y. (y, given y)) xs)) ≡ cond (b || has xs s) (Some (given s)) None
      by true e h = ap (λ y. Some (given y)) (sym (tells_apart statement_cmp-equal s x e))
      by false e h = h

  pub rising_given : (ss : List Statement) → IsStrictlySortedBy statement_cmp ss → IsRising statement_cmp (map (λ x. (x, given x)) ss)
  unfolding IsStrictlySortedBy
  rising_given [] r = tt
  rising_given (x ∷ xs) r = (all_map (λ (p : Statement × V). statement_cmp x p.0 ≡ Less) (λ y. (y, given y)) xs r.0, rising_given xs r.1)

pub rising-timelines_of : (base : List Statement) (steps : List PlainStep) → IsRising statement_cmp (timelines_of base steps)
rising-timelines_of base steps = rising_given (timeline_of base steps) (named_by base steps) (rising-set_of (base ++ named_by_steps steps))

-- a statement has no entries exactly where no step names it
pub no_entries_named : (steps : List PlainStep) (s : Statement) → has_none (entries_of steps s) ≡ not (is_named_in steps s)
no_entries_named [] s = refl
no_entries_named (step ∷ steps) s = by (is_named step.change s) (no_entries_named steps s)
  where
    by : (n : Bool) → has_none (entries_of steps s) ≡ not (is_named_in steps s)
        → has_none (map (entry_of s) (cond n (step ∷ filter (λ one. is_named one.change s) steps) (filter (λ one. is_named one.change s) steps))) ≡ not (n || is_named_in steps s)
    by true h = refl
    by false h = h

pub value-timelines_of : (base : List Statement) (steps : List PlainStep) (s : Statement)
    → value_at statement_cmp s (timelines_of base steps) ≡ kept (timeline_of base steps s)
value-timelines_of base steps s =
    value_of_given (timeline_of base steps) (named_by base steps) s
    ∙ ap (λ b. cond b (Some (timeline_of base steps s)) None) (has-named_by base steps s)
    ∙ by (has base s) (is_named_in steps s)
    ∙ ap (λ b. cond (not (has base s) && b) None (Some (timeline_of base steps s))) (sym (no_entries_named steps s))
  where
    by : (b n : Bool) → cond (b || n) (Some (timeline_of base steps s)) None ≡ cond (not b && not n) None (Some (timeline_of base steps s))
    by true n = refl
    by false true = refl
    by false false = refl

pub timeline-timelines_of : (base : List Statement) (steps : List PlainStep) (s : Statement)
    → timeline_at (timelines_of base steps) s ≡ timeline_of base steps s
timeline-timelines_of base steps s =
    ap (λ found. unwrap_or found blank) (value-timelines_of base steps s) ∙ kept_back (timeline_of base steps s)

-- ---- after changes

pub value-with_timeline : (x : Statement) (timeline : PlainTimeline) (s : Statement) (timelines : List (Statement × PlainTimeline))
    → value_at statement_cmp s (with_timeline x timeline timelines) ≡ cond (is_same s x) (kept timeline) (value_at statement_cmp s timelines)
value-with_timeline x timeline s timelines = by (is_blank timeline)
  where
    by : (b : Bool) → value_at statement_cmp s (if b then without statement_cmp x timelines else with_pair statement_cmp (x, timeline) timelines)
        ≡ cond (is_same s x) (cond b None (Some timeline)) (value_at statement_cmp s timelines)
    by true = value-without statement_cmp-total statement_cmp-equal x s timelines
    by false = value-with_pair statement_cmp-total statement_cmp-equal x timeline s timelines

module _ (remove add : List PlainStep) (old : List (Statement × PlainTimeline)) where
  abbrev edited_at : Statement → PlainTimeline
  edited_at s = spec.edited_at remove add old s

  abbrev edited_from : List (Statement × PlainTimeline) → List Statement → List (Statement × PlainTimeline)
  edited_from timelines ss = spec.edited_from remove add old timelines ss

  pub value-edited_from : (timelines : List (Statement × PlainTimeline)) (ss : List Statement) (s : Statement)
      → value_at statement_cmp s (edited_from timelines ss) ≡ cond (has ss s) (kept (edited_at s)) (value_at statement_cmp s timelines)
  value-edited_from timelines [] s = refl
  value-edited_from timelines (x ∷ xs) s =
      value-with_timeline x (edited_at x) s (edited_from timelines xs) ∙ by (is_same s x) refl (value-edited_from timelines xs s)
    where
      by : (b : Bool) → is_same s x ≡ b
          → value_at statement_cmp s (edited_from timelines xs) ≡ cond (has xs s) (kept (edited_at s)) (value_at statement_cmp s timelines)
          → cond b (kept (edited_at x)) (value_at statement_cmp s (edited_from timelines xs)) ≡ cond (b || has xs s) (kept (edited_at s)) (value_at statement_cmp s timelines)
      by true e h = ap (λ y. kept (edited_at y)) (sym (tells_apart statement_cmp-equal s x e))
      by false e h = h

pub has-touched_by : (remove add : List PlainStep) (s : Statement) → has (touched_by remove add) s ≡ (is_named_in remove s || is_named_in add s)
has-touched_by remove add s =
    has-set_of (named_by_steps remove ++ named_by_steps add) s
    ∙ list_any-append (is_same s) (named_by_steps remove) (named_by_steps add)
    ∙ (λ i. has-named_by_steps remove s i || has-named_by_steps add s i)
