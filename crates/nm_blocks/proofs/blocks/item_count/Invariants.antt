use Rattle.std.proofs.Common.{◌≡◌, length, take}
use Rattle.nm_blocks.specs.Blocks.{items_of}
use Rattle.nm_blocks.proofs.blocks.item_count.Given as goal

abbrev pub invariant-loop-block : goal.invariant-loop-block
invariant-loop-block g l = l.count ≡ length (items_of (take l.block-index l.blocks))
