use Rattle.std.proofs.Common.{◌≡◌, ◌++◌, take}
use Rattle.nm_blocks.specs.Blocks.{lists_of}
use Rattle.nm_blocks.proofs.building.share_blocks.Given as goal

abbrev pub invariant-loop-block : goal.invariant-loop-block
invariant-loop-block g l = lists_of l.made.items ≡ lists_of l.initial.made.items ++ lists_of (take l.block-index l.blocks)
