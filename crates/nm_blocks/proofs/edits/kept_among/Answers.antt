use Rattle.std.proofs.Common.{◌∙◌, subst, sym}
use Rattle.nm_blocks.specs.Items.{IsRising}
use Rattle.nm_blocks.proofs.Around.{rising_above}
use Rattle.nm_blocks.proofs.Turns.{keep_turn}
use Rattle.nm_blocks.proofs.edits.kept_among.Goals as goal

pub loop-key-preserved : goal.loop-key-preserved
loop-key-preserved g c =
    let key = g.T.Keyed.key in
    let cmp = g.T.Key.Ord.cmp in
    let o = g.met.T.Key.Ord.total in
    let k = c.key-item.result in
    let rest = c.loop-key.rest.now in (
      keep_turn key o c.args.keys.now c.loop-key.key-index k rest c.around.result.0.now c.around.result.1.now c.loop-key.made.items c.share_items.new.made.items c.loop-key-test.true c.key-item.is c.requires.keys c.loop-key.invariant.1
          c.around.ensures.below c.around.ensures.above c.in_ok-share_items.ensures
          ∙ c.loop-key.invariant.0,
      subst (IsRising key cmp) (sym c.around.ensures.above) (rising_above key o k rest c.loop-key.invariant.1),
    )
