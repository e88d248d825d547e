use Rattle.std.proofs.Common.{◌∙◌, ap, take, drop}
use Rattle.nm_blocks.specs.Items.{behind_of}
use Rattle.nm_blocks.proofs.Places.{taken_below, left_above}
use Rattle.nm_blocks.proofs.search.around.Goals as goal

pub returns-clause-below : goal.returns-clause-below
returns-clause-below g c =
    c.split_at.ensures.front ∙ ap (λ n. take n c.args.items.now) c.place_in.ensures.place ∙ taken_below g.T.Keyed.key g.met.T.Key.Ord.total c.args.key.now c.args.items.now c.requires

pub returns-clause-above : goal.returns-clause-above
returns-clause-above g c =
    c.behind.ensures
    ∙ ap (behind_of g.T.Keyed.key g.T.Key.Ord.cmp c.args.key.now) (c.split_at.ensures.back ∙ ap (λ n. drop n c.args.items.now) c.place_in.ensures.place)
    ∙ left_above g.T.Keyed.key g.met.T.Key.Ord.total c.args.key.now c.args.items.now c.requires
