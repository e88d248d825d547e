use Rattle.std.proofs.Common.{◌≡◌, ◌++◌, codes, length, take}
use Rattle.std.specs.List.{flat_map}
use Rattle.nm_session.specs.Reply.{numbered, statement_line}
use Rattle.nm_session.proofs.answer.statements_told.Given as goal

abbrev pub invariant-loop-statement : goal.invariant-loop-statement
invariant-loop-statement l = l.out.items ≡ numbered (codes "statements") (length l.statements) ++ flat_map statement_line (take l.statement-index l.statements)
