use Rattle.std.proofs.Common.{◌≡◌, drop}
use Rattle.std.specs.List.{filter}
use Rattle.nm_timeline.specs.Timeline.{is_by, present_after}
use Rattle.nm_timeline.proofs.timeline.Timeline.present.Given as goal

-- the entries that are left decide as all of them do
abbrev pub invariant-loop-key : goal.invariant-loop-key
invariant-loop-key l =
    present_after l.present (filter (is_by l.day) (drop l.key-index l.key-items)) ≡ present_after l.initial.present (filter (is_by l.day) l.key-items)
