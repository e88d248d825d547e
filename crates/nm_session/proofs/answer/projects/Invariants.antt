use Rattle.std.proofs.Common.{◌≡◌, ◌++◌, codes, length, take}
use Rattle.std.specs.List.{flat_map}
use Rattle.nm_session.specs.Reply.{numbered, row_line}
use Rattle.nm_session.proofs.answer.projects.Given as goal

abbrev pub invariant-loop-row : goal.invariant-loop-row
invariant-loop-row l = l.out.items ≡ numbered (codes "projects") (length l.rows) ++ flat_map row_line (take l.row-index l.rows)
