use Rattle.std.proofs.Common.{◌≡◌, length}
use Rattle.nm_reader.specs.Meaning as spec
use Rattle.nm_reader.specs.Seen.{all_seen}
use Rattle.nm_reader.proofs.attributes.has_only.Given as goal

abbrev pub invariant-loop-rest : goal.invariant-loop-rest
invariant-loop-rest l = spec.has_only (spec.names_of l.allowed) (all_seen l.rest) ≡ spec.has_only (spec.names_of l.allowed) (all_seen l.given)

abbrev pub decreases-loop-rest : goal.decreases-loop-rest
decreases-loop-rest l = length l.rest
