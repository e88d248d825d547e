-- Timelines and replay say the same.
use Rattle.std.specs.Prelude.{◌≡◌, ℕ, List, ◌||◌, true, false, map}
use Rattle.nm_check.specs.Breaks.{IsUnbroken, first_statement_break, least_break}
use Rattle.nm_check.specs.Edit.{CanEdit, edited_steps, keys_naming}
use Rattle.nm_check.specs.Replay.{AreSteps, statements_at}
use Rattle.nm_check.specs.Timelines.{base_of, entries_of, first_breaks_of, is_named_in, present_of, timeline_of, timelines_of}
use Rattle.nm_stage.specs.Project.{PlainStep}
use Rattle.nm_statement.specs.Set.{IsRising, has}
use Rattle.nm_statement.specs.declared.statement.Statement.{Statement}
use Rattle.nm_timeline.specs.Timeline.{edited_of, present_at}

-- a statement is one of a day exactly where its timeline is present on that day
abbrev pub PresenceIsByTimelines : Type 0
PresenceIsByTimelines =
    (base : List Statement) (steps : List PlainStep) (day : List ℕ) (statement : Statement)
    → has (statements_at base steps day) statement ≡ present_at (timeline_of base steps statement) day

-- the statements of a day are those whose timelines are present
abbrev pub StatementsAreOfTimelines : Type 0
StatementsAreOfTimelines =
    (base : List Statement) (steps : List PlainStep) (day : List ℕ) → IsRising base
    → statements_at base steps day ≡ present_of (timelines_of base steps) day

-- the base can be told from the timelines
abbrev pub BaseIsOfTimelines : Type 0
BaseIsOfTimelines =
    (base : List Statement) (steps : List PlainStep) → IsRising base → base_of (timelines_of base steps) ≡ base

-- the first statement that does not fit is the least of the first ones of the timelines
abbrev pub FirstBreakIsTheLeast : Type 0
FirstBreakIsTheLeast =
    (base : List Statement) (steps : List PlainStep) → AreSteps steps
    → first_statement_break base steps ≡ least_break (first_breaks_of (timelines_of base steps))

-- ---- edits of steps

-- what is left is in order, and its changes are of sets
abbrev pub EditedStepsAreSteps : Type 0
EditedStepsAreSteps =
    (remove add steps : List PlainStep) → AreSteps steps → CanEdit remove add steps → AreSteps (edited_steps remove add steps)

-- the timeline of a statement is edited at the keys of the steps that name it
abbrev pub TimelinesAreEdited : Type 0
TimelinesAreEdited =
    (base : List Statement) (remove add steps : List PlainStep) (statement : Statement) → AreSteps steps → CanEdit remove add steps
    → timeline_of base (edited_steps remove add steps) statement
    ≡ edited_of (timeline_of base steps statement) (keys_naming remove statement) (entries_of add statement)

-- a statement that no step that is taken away or added names has the same timeline before and after
abbrev pub OtherTimelinesStay : Type 0
OtherTimelinesStay =
    (base : List Statement) (remove add steps : List PlainStep) (statement : Statement) → AreSteps steps → CanEdit remove add steps
    → is_named_in remove statement ≡ false → is_named_in add statement ≡ false
    → timeline_of base (edited_steps remove add steps) statement ≡ timeline_of base steps statement

-- where nothing was broken, the first statement that does not fit after an edit is the least of the first ones of
-- the timelines that the edit touches
abbrev pub OnlyTouchedTimelinesBreak : Type 0
OnlyTouchedTimelinesBreak =
    (base : List Statement) (remove add steps : List PlainStep) (touched : List Statement) → AreSteps steps → CanEdit remove add steps
    → IsUnbroken base steps
    → ((statement : Statement) → (is_named_in remove statement || is_named_in add statement) ≡ true → has touched statement ≡ true)
    → first_statement_break base (edited_steps remove add steps)
    ≡ least_break (first_breaks_of (map (λ statement. (statement, timeline_of base (edited_steps remove add steps) statement)) touched))
