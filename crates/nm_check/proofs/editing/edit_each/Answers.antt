use Rattle.std.proofs.Common.{◌+◌, ◌*◌, length, arith}
use Rattle.nm_check.proofs.Ticks.{le_from_sum, unit_of}
use Rattle.nm_check.proofs.Turns.{few_turn, least_turn, steps_turn, tree_turn}
use Rattle.nm_check.specs.Touched.{edited_at}
use Rattle.nm_tree.specs.Span.{values_of}
use Rattle.nm_check.proofs.editing.edit_each.Goals as goal

pub statements-preserved : goal.statements-preserved
statements-preserved g c =
    let before = c.statements.touched.items in
    let after = c.pop.new.self.items in
    let statement = c.in-Some.statement in
    let popped = c.in-Some.ensures.items in
    let most = length c.args.old.now + length (values_of c.args.touched.now.items) in
    let few = c.statements.invariant.few in
    record {
      tree = tree_turn c.args.remove.now c.args.add.now c.args.old.now before after statement c.statements.edited.tree c.edit_one.new.edited.tree _ popped c.in_ok-edit_one.ensures.tree c.statements.invariant.tree;
      least = least_turn c.args.remove.now c.args.add.now c.args.old.now before after statement c.statements.edited.least c.edit_one.new.edited.least _ popped c.in_ok-edit_one.ensures.least c.statements.invariant.least;
      few = few_turn before after statement c.statements.edited.tree c.edit_one.new.edited.tree (edited_at c.args.remove.now c.args.add.now c.args.old.now statement.now) most popped c.in_ok-edit_one.ensures.tree few;
      steps = steps_turn before after statement c.statements.steps c.edit_one.new.steps (length c.args.old.now) (length c.statements.edited.tree) most _ popped c.edit_one.ensures.steps (omega arith) (omega (arith, few)) c.statements.invariant.steps;
    }

pub returns-in_err-edit_one-clause-steps : goal.returns-in_err-edit_one-clause-steps
returns-in_err-edit_one-clause-steps g c =
    let before = c.statements.touched.items in
    let after = c.pop.new.self.items in
    let most = length c.args.old.now + length (values_of c.args.touched.now.items) in
    let few = c.statements.invariant.few in
    le_from_sum c.edit_one.new.steps (length (values_of after) * unit_of most) _
    (steps_turn before after c.in-Some.statement c.statements.steps c.edit_one.new.steps (length c.args.old.now) (length c.statements.edited.tree) most _ c.in-Some.ensures.items c.edit_one.ensures.steps (omega arith) (omega (arith, few)) c.statements.invariant.steps)
