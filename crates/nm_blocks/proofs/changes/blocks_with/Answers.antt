use Rattle.std.proofs.Common.{◌≡◌, ◌∙◌, ◌++◌, ap}
use Rattle.nm_blocks.specs.Blocks.{items_of, lists_of}
use Rattle.nm_blocks.proofs.Cuts.{kept_before, kept_behind, rising_block}
use Rattle.nm_blocks.proofs.Passes.{others_rise, those_rise, with_end, with_pass}
use Rattle.nm_blocks.proofs.Pushed.{more_items, more_sizes}
use Rattle.nm_blocks.proofs.changes.blocks_with.Goals as goal

pub merged-requires-clause-block : goal.merged-requires-clause-block
merged-requires-clause-block g c =
    let part = c.in-Some.field-0 in
    rising_block g.T.Keyed.key g.met.T.Key.Ord.total (lists_of c.groups.blocks.now) (lists_of part.before.now) part.block.now (lists_of part.behind.now) c.in-Some.ensures.parts c.groups.invariant.2.rising

pub merged-requires-clause-added : goal.merged-requires-clause-added
merged-requires-clause-added g c =
    let part = c.in-Some.field-0 in
    those_rise g.T.Keyed.key g.met.T.Key.Ord.total c.groups.added.now part.those.now part.others.now c.in-Some.ensures.split c.groups.invariant.3

pub append_cut-requires-clause-sizes : goal.append_cut-requires-clause-sizes
append_cut-requires-clause-sizes g c =
    let part = c.in-Some.field-0 in
    more_sizes c.groups.made.items c.share_blocks.new.made.items part.before.now c.in_ok-share_blocks.ensures c.groups.invariant.1
    (kept_before g.T.Keyed.key g.met.T.Key.Ord.total (lists_of c.groups.blocks.now) (lists_of part.before.now) part.block.now (lists_of part.behind.now) c.in-Some.ensures.parts c.groups.invariant.2)

pub groups-preserved : goal.groups-preserved
groups-preserved g c =
    let key = g.T.Keyed.key in
    let o = g.met.T.Key.Ord.total in
    let part = c.in-Some.field-0 in
    let lists = lists_of c.groups.blocks.now in (
      with_pass key o c.groups.added.now lists (lists_of part.before.now) part.block.now (lists_of part.behind.now) part.those.now part.others.now c.in-Some.ensures c.groups.invariant.3
          (items_of c.groups.made.items) (items_of c.share_blocks.new.made.items) (items_of c.append_cut.new.made.items) c.in_ok-items.items.items
          (more_items c.groups.made.items c.share_blocks.new.made.items part.before.now c.in_ok-share_blocks.ensures) c.in_ok-append_cut.ensures.items c.in_ok-items.ensures
          ∙ c.groups.invariant.0,
      c.in_ok-append_cut.ensures.sizes,
      kept_behind key o lists (lists_of part.before.now) part.block.now (lists_of part.behind.now) c.in-Some.ensures.parts c.groups.invariant.2,
      others_rise key o c.groups.added.now part.those.now part.others.now c.in-Some.ensures.split c.groups.invariant.3,
    )

pub returns-clause-items : goal.returns-clause-items
returns-clause-items g c =
    let items : c.share_items.new.made.items ≡ c.groups.added.now = c.in_ok-share_items.ensures ∙ ap (λ xs. xs ++ c.groups.added.now) c.in_ok-items-2.ensures.items in
    with_end g.T.Keyed.key g.met.T.Key.Ord.total c.groups.added.now (lists_of c.groups.blocks.now) c.in_default.ensures c.groups.invariant.3
    (items_of c.groups.made.items) (items_of c.share_blocks-2.new.made.items) (items_of c.append_cut-2.new.made.items) c.share_items.new.made.items
    (more_items c.groups.made.items c.share_blocks-2.new.made.items c.groups.blocks.now c.in_ok-share_blocks-2.ensures) c.in_ok-append_cut-2.ensures.items items
    ∙ c.groups.invariant.0
