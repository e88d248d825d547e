use Rattle.std.proofs.Common.{◌≡◌, ◌<◌, ◌++◌, length}
use Rattle.nm_blocks.specs.Blocks.{AreBlocks, items_of, lists_of}
use Rattle.nm_blocks.proofs.building.append_cut.Given as goal

abbrev pub invariant-loop-item : goal.invariant-loop-item
invariant-loop-item g l = (items_of l.made.items ++ l.block.items ≡ items_of l.initial.made.items ++ l.yielded) × AreBlocks (lists_of l.made.items) × (length l.block.items < l.most)
