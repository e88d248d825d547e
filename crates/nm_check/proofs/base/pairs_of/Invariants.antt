use Rattle.std.proofs.Common.{◌≡◌, map}
use Rattle.nm_check.specs.Touched.{unchanged}
use Rattle.nm_check.proofs.base.pairs_of.Given as goal

abbrev pub invariant-loop-statement : goal.invariant-loop-statement
invariant-loop-statement l = l.pairs.items ≡ map (λ statement. (statement, unchanged)) l.yielded
