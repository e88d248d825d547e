use Rattle.std.proofs.Common.{◌∙◌, ◌++◌, ap, length, arith}
use Rattle.nm_blocks.specs.Blocks.{AreBlocks, items_of, lists_of}
use Rattle.nm_blocks.proofs.Around.{length_without}
use Rattle.nm_blocks.proofs.Cuts.{kept_before, kept_behind, kept_block, rising_block}
use Rattle.nm_blocks.proofs.Passes.{without_cut}
use Rattle.nm_blocks.proofs.Pushed.{more_items, more_sizes}
use Rattle.nm_blocks.proofs.changes.blocks_without.Goals as goal

pub kept_beside-requires : goal.kept_beside-requires
kept_beside-requires g c =
    rising_block g.T.Keyed.key g.met.T.Key.Ord.total (lists_of c.args.blocks.now) (lists_of c.in-Some.field-0.before.now) c.in-Some.field-0.block.now (lists_of c.in-Some.field-0.behind.now) c.in-Some.ensures.parts c.requires.rising

pub append_kept-requires-clause-most : goal.append_kept-requires-clause-most
append_kept-requires-clause-most g c =
    let block = c.in-Some.field-0.block.now in
    let most = (kept_block g.T.Keyed.key g.met.T.Key.Ord.total (lists_of c.args.blocks.now) (lists_of c.in-Some.field-0.before.now) block (lists_of c.in-Some.field-0.behind.now) c.in-Some.ensures.parts c.requires).1 in
    omega (arith, ap length c.in_ok-kept.ensures, length_without g.T.Keyed.key g.met.T.Key.Ord.total c.args.key.now block, most)

pub append_kept-requires-clause-sizes : goal.append_kept-requires-clause-sizes
append_kept-requires-clause-sizes g c =
    let empty : AreBlocks (lists_of c.in_ok-made.made.items) = rw c.in_ok-made.ensures.items tt in
    more_sizes c.in_ok-made.made.items c.share_blocks.new.made.items c.in-Some.field-0.before.now c.in_ok-share_blocks.ensures empty
    (kept_before g.T.Keyed.key g.met.T.Key.Ord.total (lists_of c.args.blocks.now) (lists_of c.in-Some.field-0.before.now) c.in-Some.field-0.block.now (lists_of c.in-Some.field-0.behind.now) c.in-Some.ensures.parts c.requires)

pub append_behind-requires-clause-behind : goal.append_behind-requires-clause-behind
append_behind-requires-clause-behind g c =
    (kept_behind g.T.Keyed.key g.met.T.Key.Ord.total (lists_of c.args.blocks.now) (lists_of c.in-Some.field-0.before.now) c.in-Some.field-0.block.now (lists_of c.in-Some.field-0.behind.now) c.in-Some.ensures.parts c.requires).sizes

pub returns-clause-items : goal.returns-clause-items
returns-clause-items g c =
    without_cut g.T.Keyed.key g.met.T.Key.Ord.total c.args.key.now (lists_of c.args.blocks.now) (lists_of c.in-Some.field-0.before.now) c.in-Some.field-0.block.now (lists_of c.in-Some.field-0.behind.now) c.in-Some.ensures
    (items_of c.share_blocks.new.made.items) (items_of c.append_kept.new.made.items) (items_of c.append_behind.new.made.items) c.in_ok-kept.kept.items
    (more_items c.in_ok-made.made.items c.share_blocks.new.made.items c.in-Some.field-0.before.now c.in_ok-share_blocks.ensures ∙ ap (λ bs. items_of bs ++ items_of c.in-Some.field-0.before.now) c.in_ok-made.ensures.items)
    c.in_ok-append_kept.ensures.items c.in_ok-kept.ensures c.in_ok-append_behind.ensures.items
