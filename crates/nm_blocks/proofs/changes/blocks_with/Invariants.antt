use Rattle.std.proofs.Common.{◌≡◌, ◌++◌, length}
use Rattle.nm_blocks.specs.Blocks.{AreBlocks, AreRising, items_of, lists_of}
use Rattle.nm_blocks.specs.Items.{IsRising, with_all}
use Rattle.nm_blocks.proofs.changes.blocks_with.Given as goal

abbrev pub invariant-groups : goal.invariant-groups
invariant-groups g l =
    (items_of l.made.items ++ with_all g.T.Keyed.key g.T.Key.Ord.cmp l.added (items_of l.blocks) ≡ with_all g.T.Keyed.key g.T.Key.Ord.cmp l.initial.added (items_of l.initial.blocks))
    × AreBlocks (lists_of l.made.items) × AreRising g.T.Keyed.key g.T.Key.Ord.cmp (lists_of l.blocks) × IsRising g.T.Keyed.key g.T.Key.Ord.cmp l.added

abbrev pub decreases-groups : goal.decreases-groups
decreases-groups g l = length l.blocks
