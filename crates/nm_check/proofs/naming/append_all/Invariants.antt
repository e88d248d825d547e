use Rattle.std.proofs.Common.{◌≡◌, ◌++◌, take}
use Rattle.nm_tree.specs.Span.{values_of}
use Rattle.nm_check.proofs.naming.append_all.Given as goal

abbrev pub invariant-loop-statement : goal.invariant-loop-statement
invariant-loop-statement l = values_of l.statements.items ≡ values_of l.initial.statements.items ++ take l.statement-index l.statement-items
