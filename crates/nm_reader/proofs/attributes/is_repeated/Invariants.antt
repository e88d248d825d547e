use Rattle.std.proofs.Common.{◌≡◌, length}
use Rattle.std.specs.List.{list_any}
use Rattle.nm_reader.specs.Meaning as spec
use Rattle.nm_reader.specs.Seen.{all_seen, seen}
use Rattle.nm_reader.proofs.attributes.is_repeated.Given as goal

abbrev pub invariant-loop-rest : goal.invariant-loop-rest
invariant-loop-rest l = list_any (spec.same_given (seen l.attribute)) (all_seen l.rest) ≡ list_any (spec.same_given (seen l.attribute)) (all_seen l.others)

abbrev pub decreases-loop-rest : goal.decreases-loop-rest
decreases-loop-rest l = length l.rest
