use Rattle.std.proofs.Common.{◌≡◌, length}
use Rattle.nm_reader.specs.Lent.{prefix_of}
use Rattle.nm_reader.specs.Namespaces as spec
use Rattle.nm_reader.proofs.namespaces.declared.Given as goal

abbrev pub invariant-loop-rest : goal.invariant-loop-rest
invariant-loop-rest l = spec.declared l.rest (prefix_of l.prefix) ≡ spec.declared l.declarations (prefix_of l.prefix)

abbrev pub decreases-loop-rest : goal.decreases-loop-rest
decreases-loop-rest l = length l.rest
