use Rattle.std.proofs.Common.{◌≡◌, ◌++◌, drop}
use Rattle.nm_blocks.specs.Items.{IsRising, with_all}
use Rattle.nm_blocks.proofs.edits.merged.Given as goal

abbrev pub invariant-loop-item : goal.invariant-loop-item
invariant-loop-item g l =
    (l.made.items ++ with_all g.T.Keyed.key g.T.Key.Ord.cmp (drop l.item-index l.added) l.rest ≡ with_all g.T.Keyed.key g.T.Key.Ord.cmp l.added l.block) × IsRising g.T.Keyed.key g.T.Key.Ord.cmp l.rest
