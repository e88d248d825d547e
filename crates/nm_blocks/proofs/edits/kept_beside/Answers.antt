use Rattle.std.proofs.Common.{◌∙◌, ◌++◌, ap}
use Rattle.nm_blocks.proofs.Around.{parts_beside}
use Rattle.nm_blocks.proofs.edits.kept_beside.Goals as goal

pub returns : goal.returns
returns g c =
    c.in_ok-share_items-2.ensures
    ∙ (λ i. (c.in_ok-share_items.ensures ∙ ap (λ xs. xs ++ c.around.result.0.now) c.in_ok-made.ensures.items ∙ c.around.ensures.below) i ++ c.around.ensures.above i)
    ∙ parts_beside g.T.Keyed.key g.met.T.Key.Ord.total c.args.key.now c.args.block.now c.requires
