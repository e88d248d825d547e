use Rattle.std.proofs.Common.{◌≡◌, ◌++◌, length}
use Rattle.nm_text.specs.Meaning.{with_spaces}
use Rattle.nm_text.proofs.meaning.append_each_with_spaces.Given as goal

abbrev pub invariant-loop-rest : goal.invariant-loop-rest
invariant-loop-rest l = l.out.items ++ with_spaces l.rest ≡ l.initial.out.items ++ with_spaces l.bytes

abbrev pub decreases-loop-rest : goal.decreases-loop-rest
decreases-loop-rest l = length l.rest
