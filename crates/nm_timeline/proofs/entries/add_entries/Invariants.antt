use Rattle.std.proofs.Common.{◌≡◌, drop}
use Rattle.nm_timeline.specs.Timeline.{CanAdd, with_entries}
use Rattle.nm_timeline.proofs.entries.add_entries.Given as goal

-- those that are left can be added, which makes the whole
abbrev pub invariant-loop-entry : goal.invariant-loop-entry
invariant-loop-entry l = record {
  can : CanAdd l.entries.items (drop l.entry-index l.added);
  whole : with_entries l.entries.items (drop l.entry-index l.added) ≡ with_entries l.initial.entries.items l.added;
}
