use Rattle.std.proofs.Common.{◌≡◌, take}
use Rattle.std.specs.List.{flat_map}
use Rattle.nm_tree.specs.Span.{values_of}
use Rattle.nm_version.specs.ByTimelines.{lines_told}
use Rattle.nm_version.proofs.timeline.lines_of.Given as goal

abbrev pub invariant-loop-pair : goal.invariant-loop-pair
invariant-loop-pair l = l.lines.items ≡ flat_map (lines_told l.live) (values_of (take l.pair-index l.timelines))
