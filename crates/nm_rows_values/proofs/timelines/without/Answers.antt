use Rattle.std.proofs.Common.{[]}
use Rattle.std.specs.List.{IsDistinct}
use Rattle.nm_rows_values.proofs.timelines.without.Goals as goal

pub put-requires : goal.put-requires
unfolding IsDistinct
put-requires c = record { apart = tt; free = tt }
