use Rattle.std.proofs.Common.{◌≡◌, length}
use Rattle.nm_piece.specs.Inside.{without_attributes}
use Rattle.nm_piece.specs.Tag.{inside_at}
use Rattle.nm_piece.proofs.elements.end_of_tag.Given as goal

abbrev pub invariant-loop-inside : goal.invariant-loop-inside
invariant-loop-inside l = without_attributes (inside_at l.bytes) ≡ without_attributes (inside_at l.rest)

abbrev pub decreases-loop-inside : goal.decreases-loop-inside
decreases-loop-inside l = length l.rest
