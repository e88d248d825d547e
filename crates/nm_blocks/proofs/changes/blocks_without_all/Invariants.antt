use Rattle.std.proofs.Common.{◌≡◌, ◌++◌, length}
use Rattle.std.specs.List.Sorted.{IsStrictlySortedBy}
use Rattle.nm_blocks.specs.Blocks.{AreBlocks, AreRising, items_of, lists_of}
use Rattle.nm_blocks.specs.Items.{without_all}
use Rattle.nm_blocks.proofs.changes.blocks_without_all.Given as goal

abbrev pub invariant-groups : goal.invariant-groups
invariant-groups g l =
    (items_of l.made.items ++ without_all g.T.Keyed.key g.T.Key.Ord.cmp l.keys (items_of l.blocks) ≡ without_all g.T.Keyed.key g.T.Key.Ord.cmp l.initial.keys (items_of l.initial.blocks))
    × AreBlocks (lists_of l.made.items) × AreRising g.T.Keyed.key g.T.Key.Ord.cmp (lists_of l.blocks) × IsStrictlySortedBy g.T.Key.Ord.cmp l.keys

abbrev pub decreases-groups : goal.decreases-groups
decreases-groups g l = length l.blocks
