use Rattle.std.proofs.Common.{◌∙◌, ◌++◌, sym, ap}
use Rattle.nm_blocks.proofs.Pushed.{one_further}
use Rattle.nm_stage.proofs.order.borrowed.Goals as goal

pub loop-block-preserved : goal.loop-block-preserved
loop-block-preserved c =
    c.in_ok-append_borrowed.ensures
    ∙ (λ i. c.loop-block.invariant i ++ (c.deref-in-loop-block.ensures.value ∙ ap (λ v. v.items) c.deref.ensures) i)
    ∙ sym (one_further c.args.blocks.now c.loop-block.block-index c.block-item.result c.loop-block-test.true c.block-item.is)
