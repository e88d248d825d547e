use Rattle.std.proofs.Common.{◌≡◌, ◌++◌, drop}
use Rattle.nm_statement.specs.Set.{IsRising, minus_of}
use Rattle.nm_statement.proofs.merge.first_alone.Given as goal

-- what was kept, and the difference of what is left
abbrev pub invariant-loop-statement : goal.invariant-loop-statement
invariant-loop-statement l = record {
  rising : IsRising l.rest;
  whole : l.statements.items ++ minus_of (drop l.statement-index l.left) l.rest ≡ minus_of l.left l.right;
}
