use Rattle.std.proofs.Common.{◌∙◌, ◌++◌, ap, length, arith}
use Rattle.nm_blocks.specs.Blocks.{items_of, lists_of}
use Rattle.nm_blocks.proofs.Around.{length_without_all}
use Rattle.nm_blocks.proofs.Cuts.{kept_before, kept_behind, kept_block, rising_block}
use Rattle.nm_blocks.proofs.Passes.{keys_rise, without_end, without_pass}
use Rattle.nm_blocks.proofs.changes.blocks_without_all.Goals as goal

pub append_behind-requires-clause-behind : goal.append_behind-requires-clause-behind
append_behind-requires-clause-behind g c =
    let part = c.in-Some.field-0 in
    kept_before g.T.Keyed.key g.met.T.Key.Ord.total (lists_of c.groups.blocks.now) (lists_of part.before.now) part.block.now (lists_of part.behind.now) c.in-Some.ensures.parts c.groups.invariant.2

pub kept_among-requires-clause-block : goal.kept_among-requires-clause-block
kept_among-requires-clause-block g c =
    let part = c.in-Some.field-0 in
    rising_block g.T.Keyed.key g.met.T.Key.Ord.total (lists_of c.groups.blocks.now) (lists_of part.before.now) part.block.now (lists_of part.behind.now) c.in-Some.ensures.parts c.groups.invariant.2.rising

pub kept_among-requires-clause-keys : goal.kept_among-requires-clause-keys
kept_among-requires-clause-keys g c =
    let part = c.in-Some.field-0 in
    (keys_rise g.T.Key.Ord.cmp c.groups.keys.now part.those.now part.others.now c.in-Some.ensures.split c.groups.invariant.3).0

pub append_kept-requires-clause-most : goal.append_kept-requires-clause-most
append_kept-requires-clause-most g c =
    let part = c.in-Some.field-0 in
    let most = (kept_block g.T.Keyed.key g.met.T.Key.Ord.total (lists_of c.groups.blocks.now) (lists_of part.before.now) part.block.now (lists_of part.behind.now) c.in-Some.ensures.parts c.groups.invariant.2).1 in
    omega (arith, ap length c.in_ok-kept.ensures, length_without_all g.T.Keyed.key g.met.T.Key.Ord.total part.those.now part.block.now, most)

pub groups-preserved : goal.groups-preserved
groups-preserved g c =
    let key = g.T.Keyed.key in
    let o = g.met.T.Key.Ord.total in
    let part = c.in-Some.field-0 in
    let lists = lists_of c.groups.blocks.now in (
      without_pass key o c.groups.keys.now lists (lists_of part.before.now) part.block.now (lists_of part.behind.now) part.those.now part.others.now c.in-Some.ensures
          (items_of c.groups.made.items) (items_of c.append_behind.new.made.items) (items_of c.append_kept.new.made.items) c.in_ok-kept.kept.items
          c.in_ok-append_behind.ensures.items c.in_ok-append_kept.ensures.items c.in_ok-kept.ensures
          ∙ c.groups.invariant.0,
      c.in_ok-append_kept.ensures.sizes,
      kept_behind key o lists (lists_of part.before.now) part.block.now (lists_of part.behind.now) c.in-Some.ensures.parts c.groups.invariant.2,
      (keys_rise g.T.Key.Ord.cmp c.groups.keys.now part.those.now part.others.now c.in-Some.ensures.split c.groups.invariant.3).1,
    )

pub returns-clause-items : goal.returns-clause-items
returns-clause-items g c =
    c.in_ok-append_behind-2.ensures.items
    ∙ ap (λ xs. items_of c.groups.made.items ++ xs) (without_end g.T.Keyed.key g.met.T.Key.Ord.total c.groups.keys.now (lists_of c.groups.blocks.now) c.in_default.ensures)
    ∙ c.groups.invariant.0
