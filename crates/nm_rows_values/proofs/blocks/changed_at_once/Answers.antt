use Rattle.std.proofs.Common.{refl}
use Rattle.std.specs.List.Sorted.{IsStrictlySortedBy}
use Rattle.nm_rows_values.proofs.blocks.changed_at_once.Goals as goal

pub without_all-requires : goal.without_all-requires
unfolding IsStrictlySortedBy
without_all-requires c = ((refl, (refl, tt)), ((refl, tt), (tt, tt)))
