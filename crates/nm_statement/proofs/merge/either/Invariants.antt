use Rattle.std.proofs.Common.{◌≡◌, ◌++◌, drop}
use Rattle.nm_statement.specs.Set.{IsRising, union_of}
use Rattle.nm_statement.proofs.merge.either.Given as goal

-- what was taken, and the union of what is left
abbrev pub invariant-loop-statement : goal.invariant-loop-statement
invariant-loop-statement l = record {
  rising : IsRising l.rest;
  whole : l.statements.items ++ union_of (drop l.statement-index l.left) l.rest ≡ union_of l.left l.right;
}
