use Rattle.std.proofs.Common.{◌≡◌, ◌++◌, length, map}
use Rattle.nm_reader.specs.Seen.{named, spelt}
use Rattle.nm_reader.proofs.namespaces.spellings_of.Given as goal

abbrev pub invariant-loop-rest : goal.invariant-loop-rest
invariant-loop-rest l = map spelt l.spellings.items ++ map named l.rest ≡ map named l.attributes

abbrev pub decreases-loop-rest : goal.decreases-loop-rest
decreases-loop-rest l = length l.rest
