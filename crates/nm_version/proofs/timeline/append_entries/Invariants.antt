use Rattle.std.proofs.Common.{◌≡◌, ◌++◌, take}
use Rattle.std.specs.List.{flat_map}
use Rattle.nm_version.specs.ByTimelines.{entry_lines}
use Rattle.nm_version.proofs.timeline.append_entries.Given as goal

abbrev pub invariant-loop-key : goal.invariant-loop-key
invariant-loop-key l = l.lines.items ≡ l.initial.lines.items ++ flat_map (entry_lines l.live l.statement) (take l.key-index l.entries)
