use Rattle.std.proofs.Common.{◌∙◌, ap, subst, sym}
use Rattle.nm_blocks.specs.Items.{IsRising, items_above, items_below}
use Rattle.nm_blocks.proofs.Around.{rising_above}
use Rattle.nm_blocks.proofs.Turns.{merge_turn}
use Rattle.nm_blocks.proofs.edits.merged.Goals as goal

pub loop-item-preserved : goal.loop-item-preserved
loop-item-preserved g c =
    let key = g.T.Keyed.key in
    let cmp = g.T.Key.Ord.cmp in
    let o = g.met.T.Key.Ord.total in
    let item = c.item-item.result in
    let rest = c.loop-item.rest.now in
    let low = c.around.ensures.below ∙ ap (λ k. items_below key cmp k rest) c.key.ensures in
    let high = c.around.ensures.above ∙ ap (λ k. items_above key cmp k rest) c.key.ensures in (
      merge_turn key o c.args.added.now c.loop-item.item-index item c.in_ok-share.field-0 rest c.around.result.0.now c.around.result.1.now c.loop-item.made.items c.share_items.new.made.items c.push.new.self.items c.loop-item-test.true c.item-item.is c.requires.added
          low high c.in_ok-share_items.ensures c.in_ok-push.ensures.items c.in_ok-share.ensures
          ∙ c.loop-item.invariant.0,
      subst (IsRising key cmp) (sym high) (rising_above key o (key item) rest c.loop-item.invariant.1),
    )
