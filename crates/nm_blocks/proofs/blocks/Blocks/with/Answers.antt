use Rattle.std.proofs.Common.{[]}
use Rattle.nm_blocks.specs.Items.{item_cmp}
use Rattle.nm_blocks.proofs.Lists.{rising_more, rising_none}
use Rattle.nm_blocks.proofs.blocks.Blocks.with.Goals as goal

pub with_all-requires : goal.with_all-requires
with_all-requires g c =
    let cmp = item_cmp g.T.Keyed.key g.T.Key.Ord.cmp in
    rw (c.in_ok-push.ensures.items, c.in_ok-items.ensures.items) (rising_more cmp c.args.item [] tt (rising_none cmp))
