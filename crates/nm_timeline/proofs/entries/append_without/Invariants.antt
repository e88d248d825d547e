use Rattle.std.proofs.Common.{◌≡◌, ◌++◌, take}
use Rattle.nm_timeline.specs.Timeline.{without_keys}
use Rattle.nm_timeline.proofs.entries.append_without.Given as goal

abbrev pub invariant-loop-entry : goal.invariant-loop-entry
invariant-loop-entry l = l.kept.items ≡ l.initial.kept.items ++ without_keys l.keys (take l.entry-index l.entries)
