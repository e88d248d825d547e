-- The timelines of a version, and how many nodes of their tree a command makes or visits at most.
use Rattle.std.specs.Prelude.{ℕ, ◌+◌, ◌*◌, List, length}
use Rattle.nm_check.specs.Timelines.{timelines_of}
use Rattle.nm_check.specs.Touched.{named_count}
use Rattle.nm_model.specs.declared.document.Full.{Full}
use Rattle.nm_stage.specs.Project.{PlainProject, PlainStep}
use Rattle.nm_stage.specs.Steps.{steps_of}
use Rattle.nm_statement.specs.declared.statement.Statement.{Statement}
use Rattle.nm_timeline.specs.Timeline.{PlainTimeline}
use Rattle.nm_tree.specs.Depth.{depth_of}
use Rattle.nm_version.specs.Edits.{added_by, taken_by}
use Rattle.nm_version.specs.Kept.{Kept}
use Rattle.nm_version.specs.declared.command.Command.{Command}

-- the timelines of a base and live projects
abbrev pub timelines_over : Full → List PlainProject → List (Statement × PlainTimeline)
timelines_over base live = timelines_of base.statements (steps_of live)

-- an edit of these steps over so many timelines: for each statement that a step names, four times the depth of the
-- tree, and eight more
abbrev pub steps_of_edit : ℕ → List PlainStep → List PlainStep → ℕ
steps_of_edit kept taken added =
    let k = named_count taken + named_count added in
    4 * k * (depth_of (kept + k) + 2)

-- a command, which edits the steps that it takes away and adds
abbrev pub most_steps_of : Kept → Command → ℕ
most_steps_of kept command =
    steps_of_edit (length (timelines_over kept.base kept.live)) (taken_by kept command) (added_by kept command)
