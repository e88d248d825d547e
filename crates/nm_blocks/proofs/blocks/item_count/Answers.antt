use Rattle.std.proofs.Common.{◌≡◌, ◌∙◌, ◌+◌, ap, length, length-append, take, arith, rules}
use Rattle.nm_blocks.specs.Blocks.{items_of}
use Rattle.nm_blocks.proofs.Pushed.{one_further}
use Rattle.nm_blocks.proofs.blocks.item_count.Goals as goal

pub loop-block-preserved : goal.loop-block-preserved
loop-block-preserved g c =
    let blocks = c.args.blocks.now in
    let i = c.loop-block.block-index in
    let block = c.block-item.result in
    let all : length (items_of (take (i + 1) blocks)) ≡ length (items_of (take i blocks)) + length block.value.items =
    ap length (one_further blocks i block c.loop-block-test.true c.block-item.is) ∙ length-append (items_of (take i blocks)) block.value.items in
    let many : c.len.result ≡ length block.value.items = search rules in
    let before = c.loop-block.invariant in
    omega (arith, all, many, before, c.in-Some.ensures)
