-- Which statements an edit of steps touches, and what it makes of their timelines.
use Rattle.std.specs.Prelude.{ℕ, ◌+◌, List, [], ◌∷◌, ◌++◌, Bool, true, false, ◌&&◌, not, length, Option, None, Some, if◌then◌else◌}
use Rattle.std.specs.Borrow.{Bor}
use Rattle.std.specs.Option.{unwrap_or}
use Rattle.std.specs.Ordering.{is_gt}
use Rattle.nm_check.specs.Breaks.{break_at, break_cmp, lesser_break}
use Rattle.nm_check.specs.Edit.{keys_naming}
use Rattle.nm_check.specs.Timelines.{entries_of, named_by_steps, names_of}
use Rattle.nm_check.specs.declared.breaks.Break.{Break}
use Rattle.nm_day.specs.declared.key.Key.{Key}
use Rattle.nm_stage.specs.Project.{PlainStep}
use Rattle.nm_statement.specs.Order.{statement_cmp}
use Rattle.nm_statement.specs.Set.{set_of}
use Rattle.nm_statement.specs.declared.statement.Statement.{Statement}
use Rattle.nm_timeline.specs.Timeline.{PlainTimeline, CanAdd, edited_of, first_break_of, without_keys}
use Rattle.nm_timeline.specs.declared.mark.Mark.{Mark}
use Rattle.nm_timeline.specs.declared.part.Part.{Part}
use Rattle.nm_tree.specs.Pairs.{value_at, with_pair, without}

-- the statements that these steps name
abbrev pub touched_by : List PlainStep → List PlainStep → List Statement
touched_by remove add = set_of (named_by_steps remove ++ named_by_steps add)

-- how many statements the changes of the steps name, where each step counts its own once
abbrev pub named_count : List PlainStep → ℕ
named_count [] = 0
named_count (step ∷ steps) = length (set_of (names_of step.change)) + named_count steps

-- ---- one statement

-- the timeline of a statement that neither the base nor a step names
abbrev pub blank : PlainTimeline
blank = record { base = false; entries = [] }

-- that of a statement that the base has and no step names
abbrev pub unchanged : PlainTimeline
unchanged = record { base = true; entries = [] }

abbrev pub has_none : List (Key × Mark) → Bool
has_none [] = true
has_none (entry ∷ entries) = false

abbrev pub is_blank : PlainTimeline → Bool
is_blank timeline = not timeline.base && has_none timeline.entries

-- the timeline of a statement, also where it is not among those that are kept
abbrev pub timeline_at : List (Statement × PlainTimeline) → Statement → PlainTimeline
timeline_at timelines statement = unwrap_or (value_at statement_cmp statement timelines) blank

-- a timeline that was found, or else that one
abbrev pub timeline_or_blank : Option (Bor PlainTimeline) → PlainTimeline
timeline_or_blank None = blank
timeline_or_blank (Some timeline) = timeline.now

-- the timelines with this one of the statement, or without the statement where nothing names it
abbrev pub with_timeline : Statement → PlainTimeline → List (Statement × PlainTimeline) → List (Statement × PlainTimeline)
with_timeline statement timeline timelines =
    if is_blank timeline then without statement_cmp statement timelines else with_pair statement_cmp (statement, timeline) timelines

-- whether a break stands behind the least one
abbrev pub is_above_least : Break → Option Break → Bool
is_above_least found None = false
is_above_least found (Some least) = is_gt (break_cmp found least)

-- the lesser of this break of the statement and another
abbrev pub least_with : Statement → Option (Key × Part) → Option Break → Option Break
least_with statement None least = least
least_with statement (Some at) least = Some (lesser_break (break_at at.0 at.1 statement) least)

-- ---- one statement after another

module _ (remove add : List PlainStep) (old : List (Statement × PlainTimeline)) where
  -- the timeline of a statement after the edit
  abbrev pub edited_at : Statement → PlainTimeline
  edited_at statement = edited_of (timeline_at old statement) (keys_naming remove statement) (entries_of add statement)

  -- timelines in which those of these statements are edited
  abbrev pub edited_from : List (Statement × PlainTimeline) → List Statement → List (Statement × PlainTimeline)
  edited_from timelines [] = timelines
  edited_from timelines (statement ∷ statements) = with_timeline statement (edited_at statement) (edited_from timelines statements)

  -- the least of a break and the first ones of these statements after the edit
  abbrev pub least_from : Option Break → List Statement → Option Break
  least_from least [] = least
  least_from least (statement ∷ statements) = least_with statement (first_break_of (edited_at statement)) (least_from least statements)

  -- each timeline can be edited
  abbrev pub CanEditAt : Statement → Type 0
  CanEditAt statement = CanAdd (without_keys (keys_naming remove statement) (timeline_at old statement).entries) (entries_of add statement)
