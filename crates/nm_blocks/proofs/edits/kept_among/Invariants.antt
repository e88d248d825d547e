use Rattle.std.proofs.Common.{◌≡◌, ◌++◌, drop}
use Rattle.nm_blocks.specs.Items.{IsRising, without_all}
use Rattle.nm_blocks.proofs.edits.kept_among.Given as goal

abbrev pub invariant-loop-key : goal.invariant-loop-key
invariant-loop-key g l =
    (l.made.items ++ without_all g.T.Keyed.key g.T.Key.Ord.cmp (drop l.key-index l.keys) l.rest ≡ without_all g.T.Keyed.key g.T.Key.Ord.cmp l.keys l.block) × IsRising g.T.Keyed.key g.T.Key.Ord.cmp l.rest
