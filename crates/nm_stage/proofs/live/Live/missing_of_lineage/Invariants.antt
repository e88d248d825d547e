use Rattle.std.proofs.Common.{◌&&◌, not, take}
use Rattle.std.specs.Ordering.{is_lt}
use Rattle.nm_day.specs.Key.{key_cmp}
use Rattle.nm_stage.specs.Project.{has_id, key_of}
use Rattle.nm_stage.specs.Unmet.{IsFirst, misses}
use Rattle.nm_stage.proofs.live.Live.missing_of_lineage.Given as goal

abbrev pub invariant-loop-id : goal.invariant-loop-id
invariant-loop-id l = IsFirst l.self (misses l.known l.self) (λ q j. misses l.known l.self q j && (has_id (take l.id-index l.ids) j && not (is_lt (key_cmp (key_of q) l.key)))) l.first
