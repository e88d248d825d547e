use Rattle.std.proofs.Common.{◌≡◌, ◌++◌, take}
use Rattle.nm_statement.proofs.merge.append_copies.Given as goal

abbrev pub invariant-loop-statement : goal.invariant-loop-statement
invariant-loop-statement l = l.copies.items ≡ l.initial.copies.items ++ take l.statement-index l.statements
