-- What timelines are kept, and what is due of an edit.
use Rattle.std.specs.Prelude.{◌≡◌, List, Option, None, Some, Result, Ok, Err}
use Rattle.nm_check.specs.Breaks.{IsUnbroken, first_statement_break}
use Rattle.nm_check.specs.Edit.{CanEdit, edited_steps}
use Rattle.nm_check.specs.Replay.{AreSteps}
use Rattle.nm_check.specs.Timelines.{timelines_of}
use Rattle.nm_check.specs.declared.breaks.Break.{Break}
use Rattle.nm_check.specs.declared.breaks.EditError.{EditError}
use Rattle.nm_check.specs.declared.breaks.EditError.TheVariants as edit_error
use Rattle.nm_stage.specs.Project.{PlainStep}
use Rattle.nm_statement.specs.Set.{IsRising}
use Rattle.nm_statement.specs.declared.statement.Statement.{Statement}
use Rattle.nm_timeline.specs.Timeline.{PlainTimeline}

-- the timelines are those of this base and these steps
pub record AreTimelinesOf (base : List Statement) (steps : List PlainStep) (timelines : List (Statement × PlainTimeline)) : Type 0 where
  pub rising : IsRising base
  pub are : AreSteps steps
  pub timelines_are : timelines ≡ timelines_of base steps

-- they are those of some base and steps, none of which breaks
pub record AreKept (timelines : List (Statement × PlainTimeline)) : Type 0 where
  pub base : List Statement
  pub steps : List PlainStep
  pub those : AreTimelinesOf base steps timelines
  pub unbroken : IsUnbroken base steps

-- they are those of some base and steps of which these can be taken away, and to which those can be added
pub record CanEditTimelines (remove add : List PlainStep) (timelines : List (Statement × PlainTimeline)) : Type 0 where
  pub base : List Statement
  pub steps : List PlainStep
  pub those : AreTimelinesOf base steps timelines
  pub can : CanEdit remove add steps

-- the timelines, unless there is a break
abbrev pub unless_broken : Option Break → List (Statement × PlainTimeline) → Result (List (Statement × PlainTimeline)) EditError
unless_broken None timelines = Ok timelines
unless_broken (Some found) timelines = Err (edit_error.Break found)

-- the timelines of the base and the edited steps, or their first break
abbrev pub due_after : List Statement → List PlainStep → List PlainStep → List PlainStep → Result (List (Statement × PlainTimeline)) EditError
due_after base remove add steps =
    unless_broken (first_statement_break base (edited_steps remove add steps)) (timelines_of base (edited_steps remove add steps))
