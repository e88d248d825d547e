use Rattle.nm_writer.proofs.Namespaces.{text_total}
use Rattle.nm_writer.proofs.Places.{rising-nil}
use Rattle.nm_writer.proofs.prefixes.Namespaces.new.Goals as goal

pub invariant_of-result : goal.invariant_of-result
invariant_of-result c = rw c.new.ensures.items (rising-nil text_total)
