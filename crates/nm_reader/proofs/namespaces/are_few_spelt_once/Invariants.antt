use Rattle.std.proofs.Common.{◌≡◌, length}
use Rattle.nm_reader.specs.Namespaces as spec
use Rattle.nm_reader.proofs.namespaces.are_few_spelt_once.Given as goal

abbrev pub invariant-loop-rest : goal.invariant-loop-rest
invariant-loop-rest l = spec.are_spelt_once l.rest ≡ spec.are_spelt_once l.attributes

abbrev pub decreases-loop-rest : goal.decreases-loop-rest
decreases-loop-rest l = length l.rest
