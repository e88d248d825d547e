use Rattle.std.proofs.Common.{◌≡◌, ◌==◌, length}
use Rattle.nm_reader.specs.Namespaces.{are_distinct_by}
use Rattle.nm_reader.proofs.Sorting.{distinct_by_sorting}
use Rattle.nm_reader.proofs.distinct.are_distinct.Goals as goal

pub returns : goal.returns
returns g c =
    let sorted : (length c.dedup.new.self.items == length c.args.items.items) ≡ are_distinct_by g.T.PartialEq.eq c.args.items.items = distinct_by_sorting g.T.PartialEq.eq g.T.Ord.cmp g.met.T.Ord.total g.met.T.Ord.matches_eq g.met.T.PartialEq.laws.symm
    c.args.items.items _ _ c.sort_unstable.ensures.permutation c.sort_unstable.ensures.sorted c.dedup.ensures.filtered in
    cc
