use Rattle.std.proofs.Common.{sym, subst}
use Rattle.nm_blocks.specs.Blocks.{items_of}
use Rattle.nm_blocks.specs.Items.{IsRising}
use Rattle.nm_blocks.proofs.Around.{rising_without_all}
use Rattle.nm_blocks.proofs.blocks.Blocks.without_all.Goals as goal

pub of_blocks-requires : goal.of_blocks-requires
of_blocks-requires g c = record {
  sizes = c.in_ok-blocks_without_all.ensures.sizes;
  rising = subst (IsRising g.T.Keyed.key g.T.Key.Ord.cmp) (sym c.in_ok-blocks_without_all.ensures.items) (rising_without_all g.T.Keyed.key g.met.T.Key.Ord.total c.args.keys.now (items_of c.deref.result.now) (rw c.deref.ensures.value c.self.invariant.0.rising));
}
