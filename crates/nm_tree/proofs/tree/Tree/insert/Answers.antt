use Rattle.std.proofs.Common.{refl, ap, length, arith}
use Rattle.nm_tree.specs.Depth.{depth_of}
use Rattle.nm_tree.proofs.tree.Tree.insert.Goals as goal

pub returns-in_err-len-clause-steps : goal.returns-in_err-len-clause-steps
returns-in_err-len-clause-steps g c =
    let depth = ap (λ pairs. depth_of (length pairs)) c.self.view_is in
    omega (arith, c.insert_into.ensures.steps, c.read_kept.ensures.depth)

pub same-branch : goal.same-branch
same-branch g c = refl

pub invariant_of-result : goal.invariant_of-result
invariant_of-result g c = cc (c.in_ok-len.ensures, c.in_ok-branch.ensures.count, c.self.invariant)

pub returns-clause-steps : goal.returns-clause-steps
returns-clause-steps g c =
    let depth = ap (λ pairs. depth_of (length pairs)) c.self.view_is in
    omega (arith, c.insert_into.ensures.steps, c.read_kept.ensures.depth)
