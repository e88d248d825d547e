use Rattle.nm_tree.proofs.Depths.{depth_of-is}
use Rattle.nm_tree.proofs.laws.depth_is_greatest.Goals as goal

pub returns : goal.returns
returns c = depth_of-is c.args.n
