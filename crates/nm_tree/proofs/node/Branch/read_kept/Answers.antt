use Rattle.std.proofs.Common.{subst, length}
use Rattle.nm_tree.specs.Pairs.{IsRising}
use Rattle.nm_tree.proofs.Depths.{height-le-depth_of}
use Rattle.nm_tree.proofs.Kept.{rising-IsBranch}
use Rattle.nm_tree.proofs.node.Branch.read_kept.Goals as goal

pub returns-clause-rising : goal.returns-clause-rising
returns-clause-rising g c =
    subst (λ b. IsRising g.K.Ord.cmp b.pairs) c.self.view_is (rising-IsBranch g.K.Ord.cmp c.self.inside.height c.self.inside.node c.self.invariant)

pub returns-clause-depth : goal.returns-clause-depth
returns-clause-depth g c = height-le-depth_of (length c.args.self.now.pairs) c.args.self.now.height c.height-height.ensures.shallow
