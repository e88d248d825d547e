use Rattle.nm_check.proofs.Ordered.{ordered_values}
use Rattle.nm_check.proofs.naming.in_order.Goals as goal

pub returns : goal.returns
returns c =
    ordered_values c.args.statements.items c.sort_unstable.new.self.items c.dedup.new.self.items c.sort_unstable.ensures.permutation c.sort_unstable.ensures.sorted c.dedup.ensures.filtered
