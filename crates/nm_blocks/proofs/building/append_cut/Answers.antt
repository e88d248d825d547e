use Rattle.std.proofs.Common.{◌∙◌, ◌++◌, ◌∷◌, [], ap, sym, append_assoc}
use Rattle.nm_blocks.specs.Blocks.{items_of}
use Rattle.nm_blocks.proofs.building.append_cut.Goals as goal

pub loop-item-preserved : goal.loop-item-preserved
loop-item-preserved g c =
    let made = items_of c.loop-item.made.items in
    let item = c.in-Some.item in (
      c.in_ok-block-2.ensures.items
          ∙ ap (λ xs. made ++ xs) c.in_ok-push.ensures.items
          ∙ sym (append_assoc made c.loop-item.block.items (item ∷ []))
          ∙ ap (λ xs. xs ++ item ∷ []) c.loop-item.invariant.0
          ∙ append_assoc (items_of c.args.made.now.items) c.loop-item.yielded (item ∷ []),
      c.in_ok-block-2.ensures.sizes,
      c.in_ok-block-2.ensures.room,
    )
