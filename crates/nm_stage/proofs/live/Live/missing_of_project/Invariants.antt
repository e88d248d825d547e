use Rattle.std.proofs.Common.{◌&&◌, ◌==◌, take}
use Rattle.nm_stage.specs.Project.{has_id}
use Rattle.nm_stage.specs.Unmet.{IsFirst, misses}
use Rattle.nm_stage.proofs.live.Live.missing_of_project.Given as goal

abbrev pub invariant-loop-id : goal.invariant-loop-id
invariant-loop-id l = IsFirst l.self (misses l.known l.self) (λ q j. misses l.known l.self q j && (has_id (take l.id-index l.id-items) j && (q.filing == l.project.filing))) l.first
