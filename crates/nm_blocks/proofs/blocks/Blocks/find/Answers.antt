use Rattle.std.proofs.Common.{◌∙◌, ap, sym}
use Rattle.std.specs.Option.{option_map}
use Rattle.nm_blocks.specs.Blocks.{items_of}
use Rattle.nm_blocks.specs.Items.{first_from, item_at}
use Rattle.nm_blocks.proofs.Places.{found_at, found_beside, found_nowhere}
use Rattle.nm_blocks.proofs.blocks.Blocks.find.Goals as goal

pub returns-in_err-item : goal.returns-in_err-item
returns-in_err-item g c =
    let key = g.T.Keyed.key in
    let k = c.args.key.now in
    let items = items_of c.self.inside.blocks.items in
    ap (option_map (λ x. x.now)) c.from_residual.ensures
    ∙ found_nowhere key g.met.T.Key.Ord.total k items c.self.invariant.0.rising (c.in_err-item.ensures ∙ ap (λ bs. first_from key g.T.Key.Ord.cmp k (items_of bs)) c.deref.ensures.value)
    ∙ ap (item_at key g.T.Key.Ord.cmp k) c.self.view_is

pub returns-then-is_at : goal.returns-then-is_at
returns-then-is_at g c =
    let key = g.T.Keyed.key in
    let k = c.args.key.now in
    let items = items_of c.self.inside.blocks.items in
    found_at key g.met.T.Key.Ord.total k items c.self.invariant.0.rising c.in_ok-item.item.now (c.in_ok-item.ensures ∙ ap (λ bs. first_from key g.T.Key.Ord.cmp k (items_of bs)) c.deref.ensures.value) (sym c.is_at.ensures ∙ c.if-is_at.true)
    ∙ ap (item_at key g.T.Key.Ord.cmp k) c.self.view_is

pub returns-else-is_at : goal.returns-else-is_at
returns-else-is_at g c =
    let key = g.T.Keyed.key in
    let k = c.args.key.now in
    let items = items_of c.self.inside.blocks.items in
    found_beside key g.met.T.Key.Ord.total k items c.self.invariant.0.rising c.in_ok-item.item.now (c.in_ok-item.ensures ∙ ap (λ bs. first_from key g.T.Key.Ord.cmp k (items_of bs)) c.deref.ensures.value) (sym c.is_at.ensures ∙ c.if-is_at.false)
    ∙ ap (item_at key g.T.Key.Ord.cmp k) c.self.view_is
