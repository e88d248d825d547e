-- The timelines of all statements that a base or steps name.
use Rattle.std.specs.Prelude.{ℕ, List, [], ◌∷◌, ◌++◌, Bool, ◌||◌, map, Option, None, Some}
use Rattle.std.specs.List.{filter, flat_map, list_any}
use Rattle.nm_check.specs.Breaks.{break_at}
use Rattle.nm_check.specs.declared.breaks.Break.{Break}
use Rattle.nm_day.specs.declared.key.Key.{Key}
use Rattle.nm_stage.specs.Project.{PlainStep}
use Rattle.nm_statement.specs.Set.{has, set_of}
use Rattle.nm_statement.specs.declared.set.Change.{Change}
use Rattle.nm_statement.specs.declared.statement.Statement.{Statement}
use Rattle.nm_timeline.specs.Timeline.{PlainTimeline, first_break_of, present_at}
use Rattle.nm_timeline.specs.declared.mark.Mark.{Mark}
use Rattle.nm_timeline.specs.declared.part.Part.{Part}

-- how a change names a statement
abbrev pub mark_of : Change → Statement → Mark
mark_of change statement = record { pre = has change.pre statement; rev = has change.rev statement; fwd = has change.fwd statement }

abbrev pub is_named : Change → Statement → Bool
is_named change statement = has change.pre statement || (has change.rev statement || has change.fwd statement)

-- whether one of the steps names the statement
abbrev pub is_named_in : List PlainStep → Statement → Bool
is_named_in steps statement = list_any (λ step. is_named step.change statement) steps

abbrev pub entry_of : Statement → PlainStep → Key × Mark
entry_of statement step = (step.key, mark_of step.change statement)

-- the entries of the steps that name the statement, in their order
abbrev pub entries_of : List PlainStep → Statement → List (Key × Mark)
entries_of steps statement = map (entry_of statement) (filter (λ step. is_named step.change statement) steps)

abbrev pub timeline_of : List Statement → List PlainStep → Statement → PlainTimeline
timeline_of base steps statement = record { base = has base statement; entries = entries_of steps statement }

-- the statements that a change names
abbrev pub names_of : Change → List Statement
names_of change = change.pre ++ change.rev ++ change.fwd

abbrev pub named_by_steps : List PlainStep → List Statement
named_by_steps steps = flat_map (λ step. names_of step.change) steps

-- those that the base or a step names, in order
abbrev pub named_by : List Statement → List PlainStep → List Statement
named_by base steps = set_of (base ++ named_by_steps steps)

-- each of them with its timeline
abbrev pub timelines_of : List Statement → List PlainStep → List (Statement × PlainTimeline)
timelines_of base steps = map (λ statement. (statement, timeline_of base steps statement)) (named_by base steps)

-- ---- what they tell

-- the statements of the base
abbrev pub base_of : List (Statement × PlainTimeline) → List Statement
base_of timelines = map (λ pair. pair.0) (filter (λ pair. pair.1.base) timelines)

-- the statements that are there on a day
abbrev pub present_of : List (Statement × PlainTimeline) → List ℕ → List Statement
present_of timelines day = map (λ pair. pair.0) (filter (λ pair. present_at pair.1 day) timelines)

abbrev pub breaks_about : Statement → Option (Key × Part) → List Break
breaks_about statement None = []
breaks_about statement (Some at) = break_at at.0 at.1 statement ∷ []

-- the first entry of each that does not fit
abbrev pub first_breaks_of : List (Statement × PlainTimeline) → List Break
first_breaks_of timelines = flat_map (λ pair. breaks_about pair.0 (first_break_of pair.1)) timelines
