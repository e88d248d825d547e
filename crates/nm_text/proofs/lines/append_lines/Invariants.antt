use Rattle.std.proofs.Common.{◌≡◌, ◌++◌, length}
use Rattle.nm_text.specs.LineEnds.{normal_lines}
use Rattle.nm_text.proofs.lines.append_lines.Given as goal

abbrev pub invariant-loop-behind : goal.invariant-loop-behind
invariant-loop-behind l = l.out.items ++ normal_lines l.rest ≡ l.initial.out.items ++ normal_lines l.bytes

abbrev pub decreases-loop-behind : goal.decreases-loop-behind
decreases-loop-behind l = length l.rest
