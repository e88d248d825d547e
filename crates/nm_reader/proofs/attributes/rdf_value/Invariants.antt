use Rattle.std.proofs.Common.{◌≡◌, length}
use Rattle.nm_reader.specs.Meaning as spec
use Rattle.nm_reader.specs.Seen.{all_seen}
use Rattle.nm_reader.proofs.attributes.rdf_value.Given as goal

abbrev pub invariant-loop-rest : goal.invariant-loop-rest
invariant-loop-rest l = spec.value_of (spec.rdf l.local) (all_seen l.rest) ≡ spec.value_of (spec.rdf l.local) (all_seen l.given)

abbrev pub decreases-loop-rest : goal.decreases-loop-rest
decreases-loop-rest l = length l.rest
