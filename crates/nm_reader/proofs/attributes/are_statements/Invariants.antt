use Rattle.std.proofs.Common.{◌≡◌, length}
use Rattle.std.specs.List.{list_all}
use Rattle.nm_reader.specs.Meaning as spec
use Rattle.nm_reader.specs.Seen.{all_seen}
use Rattle.nm_reader.proofs.attributes.are_statements.Given as goal

abbrev pub invariant-loop-rest : goal.invariant-loop-rest
invariant-loop-rest l = list_all spec.is_statements (all_seen l.rest) ≡ list_all spec.is_statements (all_seen l.given)

abbrev pub decreases-loop-rest : goal.decreases-loop-rest
decreases-loop-rest l = length l.rest
