use Rattle.std.proofs.Common.{◌≡◌, take, map}
use Rattle.nm_blocks.specs.Blocks.{items_of}
use Rattle.nm_stage.proofs.order.borrowed.Given as goal

abbrev pub invariant-loop-block : goal.invariant-loop-block
invariant-loop-block l = map (λ one. one.now) l.projects.items ≡ items_of (take l.block-index l.blocks)
