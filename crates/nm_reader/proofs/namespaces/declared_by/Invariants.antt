use Rattle.std.proofs.Common.{◌≡◌, ◌++◌, length}
use Rattle.nm_reader.specs.Namespaces as spec
use Rattle.nm_reader.proofs.namespaces.declared_by.Given as goal

abbrev pub invariant-loop-rest : goal.invariant-loop-rest
invariant-loop-rest l = l.declarations.items ++ spec.declared_by l.rest ≡ spec.declared_by l.attributes

abbrev pub decreases-loop-rest : goal.decreases-loop-rest
decreases-loop-rest l = length l.rest
