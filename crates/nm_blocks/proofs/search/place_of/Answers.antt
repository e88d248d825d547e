use Rattle.std.proofs.Common.{◌∙◌, rules}
use Rattle.std.proofs.lemmas.List.Sorted.{IsPartitionPoint-from_clause}
use Rattle.nm_blocks.specs.Items.{ends_below}
use Rattle.nm_blocks.proofs.Cuts.{arc_ends, falls_blocks}
use Rattle.nm_blocks.proofs.Places.{counted, partitioned, prefix_len-map}
use Rattle.nm_blocks.proofs.search.place_of.Goals as goal

pub returns-clause-place : goal.returns-clause-place
returns-clause-place g c =
    let test = arc_ends g.T.Keyed.key g.met.T.Key.Ord.total c.args.key.now in
    let xs = c.args.blocks.now in
    counted test xs c.partition_point.result c.partition_point.ensures.bound
    (IsPartitionPoint-from_clause test xs c.partition_point.result c.partition_point.ensures.partitioned (partitioned test xs (falls_blocks g.T.Keyed.key g.met.T.Key.Ord.total c.args.key.now xs c.requires)) (λ a r q k. search rules))
    ∙ prefix_len-map (ends_below g.T.Keyed.key g.T.Key.Ord.cmp c.args.key.now) (λ b. b.value.items) xs
