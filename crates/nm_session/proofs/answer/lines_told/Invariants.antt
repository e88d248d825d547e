use Rattle.std.proofs.Common.{◌≡◌, ◌++◌, codes, length, take}
use Rattle.std.specs.List.{flat_map}
use Rattle.nm_session.specs.Reply.{numbered, timeline_line}
use Rattle.nm_session.proofs.answer.lines_told.Given as goal

abbrev pub invariant-loop-said : goal.invariant-loop-said
invariant-loop-said l = l.out.items ≡ numbered (codes "lines") (length l.lines) ++ flat_map timeline_line (take l.said-index l.lines)
