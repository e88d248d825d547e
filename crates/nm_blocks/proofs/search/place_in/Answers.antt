use Rattle.std.proofs.Common.{rules}
use Rattle.std.proofs.lemmas.List.Sorted.{IsPartitionPoint-from_clause}
use Rattle.nm_blocks.specs.Items.{is_below}
use Rattle.nm_blocks.proofs.Places.{counted, falls_below, partitioned}
use Rattle.nm_blocks.proofs.search.place_in.Goals as goal

pub returns-clause-place : goal.returns-clause-place
returns-clause-place g c =
    let test = is_below g.T.Keyed.key g.T.Key.Ord.cmp c.args.key.now in
    let xs = c.args.items.now in
    counted test xs c.partition_point.result c.partition_point.ensures.bound
    (IsPartitionPoint-from_clause test xs c.partition_point.result c.partition_point.ensures.partitioned (partitioned test xs (falls_below g.T.Keyed.key g.met.T.Key.Ord.total c.args.key.now xs c.requires)) (λ a r q k. search rules))
