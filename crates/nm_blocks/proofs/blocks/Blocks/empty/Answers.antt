use Rattle.std.proofs.Common.{refl}
use Rattle.nm_blocks.specs.Items.{item_cmp}
use Rattle.nm_blocks.proofs.Lists.{rising_none}
use Rattle.nm_blocks.proofs.blocks.Blocks.empty.Goals as goal

pub invariant_of-result : goal.invariant_of-result
invariant_of-result g c = rw c.new.ensures.items (record { sizes = tt; rising = rising_none (item_cmp g.T.Keyed.key g.T.Key.Ord.cmp) }, refl)
