use Rattle.std.proofs.Common.{◌≡◌, drop}
use Rattle.nm_timeline.specs.Timeline.{first_break_from}
use Rattle.nm_timeline.proofs.timeline.Timeline.first_break.Given as goal

-- the first break is one of the entries that are left
abbrev pub invariant-loop-key : goal.invariant-loop-key
invariant-loop-key l = first_break_from l.present (drop l.key-index l.key-items) ≡ first_break_from l.initial.present l.key-items
