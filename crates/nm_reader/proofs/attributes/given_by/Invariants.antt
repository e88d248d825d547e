use Rattle.std.proofs.Common.{◌≡◌, ◌++◌, length}
use Rattle.nm_reader.specs.Context.{scope_in}
use Rattle.nm_reader.specs.Namespaces.{given_by as given_by_of}
use Rattle.nm_reader.specs.Seen.{all_seen}
use Rattle.nm_reader.proofs.attributes.given_by.Given as goal

abbrev pub invariant-loop-rest : goal.invariant-loop-rest
invariant-loop-rest l = all_seen l.given.items ++ given_by_of (l.own ++ scope_in l.elements) l.rest ≡ given_by_of (l.own ++ scope_in l.elements) l.attributes

abbrev pub decreases-loop-rest : goal.decreases-loop-rest
decreases-loop-rest l = length l.rest
