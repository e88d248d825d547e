use Rattle.std.proofs.Common.{◌≡◌, ◌++◌, length}
use Rattle.nm_reader.proofs.tag.attributes_of.Given as goal

abbrev pub invariant-loop-attribute : goal.invariant-loop-attribute
invariant-loop-attribute l = l.list.items ++ l.attributes ≡ l.initial.attributes

abbrev pub decreases-loop-attribute : goal.decreases-loop-attribute
decreases-loop-attribute l = length l.attributes
