-- What a version holds, and what holds of it.
use Rattle.std.specs.Prelude.{◌≡◌, ℕ, ◌≤◌, List}
use Rattle.std.specs.Arc.{arc_value}
use Rattle.std.specs.Global.{Global}
use Rattle.std.specs.declared.sync.Arc.{Arc}
use Rattle.nm_check.specs.Timelines.{base_of}
use Rattle.nm_model.specs.declared.document.Full.{Full}
use Rattle.nm_model.specs.declared.header.Header.{Header}
use Rattle.nm_stage.specs.Project.{PlainProject}
use Rattle.nm_statement.specs.Set.{IsRising}
use Rattle.nm_statement.specs.declared.statement.Statement.{Statement}
use Rattle.nm_timeline.specs.Timeline.{PlainTimeline}
use Rattle.nm_version.specs.After.{IsReached}
use Rattle.nm_version.specs.Kept.{Kept, number_of, size_of}
use Rattle.nm_version.specs.Limits.{most_commits, largest_store}
use Rattle.nm_version.specs.Timelines.{timelines_over}
use Rattle.nm_version.specs.declared.command.Entry.{Entry}

-- the base: its header, and its statements among the timelines
abbrev pub base_kept : Arc Header Global → List (Statement × PlainTimeline) → Full
base_kept header timelines = record { header = arc_value header; statements = base_of timelines }

abbrev pub kept_of : Arc Header Global → Arc (List ℕ) Global → List PlainProject → List (Statement × PlainTimeline) → List Entry → Kept
kept_of header bytes live timelines log = record { base = base_kept header timelines; bytes = arc_value bytes; live = live; log = log }

-- accepted commands have led to what is kept, the timelines are those of its base and its live projects, and its
-- documents have as many bytes in all, within the limits
pub record IsWithin (kept : Kept) (timelines : List (Statement × PlainTimeline)) (size : ℕ) : Type 0 where
  pub reached : IsReached kept
  pub rising : IsRising kept.base.statements
  pub timed : timelines ≡ timelines_over kept.base kept.live
  pub numbered : number_of kept ≤ most_commits
  pub sized : size ≡ size_of kept
  pub fits : size ≤ largest_store
