use Rattle.std.proofs.Common.{rules}
use Rattle.nm_tree.proofs.Heights.{IsShallow-fork_of}
use Rattle.nm_tree.proofs.node.Branch.make.Goals as goal

pub invariant_of-result : goal.invariant_of-result
invariant_of-result g c =
    let shallow = IsShallow-fork_of c.args.left c.args.pair.value c.args.right c.requires.balanced c.height.ensures.shallow c.height-2.ensures.shallow in
    search rules
