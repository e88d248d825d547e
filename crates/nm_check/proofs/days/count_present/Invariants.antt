use Rattle.std.proofs.Common.{◌≡◌, ◌≤◌, length, take}
use Rattle.nm_check.specs.Timelines.{present_of}
use Rattle.nm_tree.specs.Span.{values_of}
use Rattle.nm_check.proofs.days.count_present.Given as goal

abbrev pub invariant-loop-pair : goal.invariant-loop-pair
invariant-loop-pair l = (l.count ≡ length (present_of (values_of (take l.pair-index l.pairs)) l.day)) × (l.count ≤ l.pair-index)
