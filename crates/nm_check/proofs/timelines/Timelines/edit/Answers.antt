use Rattle.std.proofs.Common.{◌∙◌, None, ap, subst, sym}
use Rattle.nm_check.proofs.EditsDue.{can_edit_at, due_break, due_ok, kept_after}
use Rattle.nm_check.proofs.Ticks.{edit_cost}
use Rattle.nm_check.specs.Kept.{AreTimelinesOf, CanEditTimelines}
use Rattle.nm_check.specs.Touched.{edited_from, least_from}
use Rattle.nm_tree.specs.Span.{values_of}
use Rattle.nm_check.proofs.timelines.Timelines.edit.Goals as goal

pub edit_touched-requires : goal.edit_touched-requires
edit_touched-requires g c =
    record { can = can_edit_at c.args.remove.now c.args.add.now c.self.inside.tree (subst (CanEditTimelines c.args.remove.now c.args.add.now) (sym c.self.view_is) c.requires) }

pub returns-in_err-tree-clause-steps : goal.returns-in_err-tree-clause-steps
returns-in_err-tree-clause-steps g c =
    edit_cost c.edit_touched.new.steps c.args.steps.now (values_of c.in_ok-touched.touched.items) c.self.inside.tree c.args.self.now c.args.remove.now c.args.add.now c.edit_touched.ensures.steps c.in_ok-touched.ensures c.self.view_is

pub returns-in-Some-clause-due : goal.returns-in-Some-clause-due
returns-in-Some-clause-due g c =
    λ base before those can.
    due_break c.args.remove.now c.args.add.now base before c.self.inside.tree (subst (AreTimelinesOf base before) (sym c.self.view_is) those) can c.self.invariant c.in-Some.found
    (ap (least_from c.args.remove.now c.args.add.now c.self.inside.tree None) (sym c.in_ok-touched.ensures) ∙ sym c.in_ok-tree.ensures.least ∙ c.in-Some.is)

pub returns-in-Some-clause-steps : goal.returns-in-Some-clause-steps
returns-in-Some-clause-steps g c =
    edit_cost c.edit_touched.new.steps c.args.steps.now (values_of c.in_ok-touched.touched.items) c.self.inside.tree c.args.self.now c.args.remove.now c.args.add.now c.edit_touched.ensures.steps c.in_ok-touched.ensures c.self.view_is

pub invariant_of-result : goal.invariant_of-result
invariant_of-result g c =
    kept_after c.args.remove.now c.args.add.now c.requires.base c.requires.steps c.self.inside.tree
    (subst (AreTimelinesOf c.requires.base c.requires.steps) (sym c.self.view_is) c.requires.those) c.requires.can c.self.invariant
    c.in_ok-tree.field-0.tree c.in_ok-tree.ensures.rising
    (c.in_ok-tree.ensures.tree ∙ ap (edited_from c.args.remove.now c.args.add.now c.self.inside.tree c.self.inside.tree) c.in_ok-touched.ensures)
    (ap (least_from c.args.remove.now c.args.add.now c.self.inside.tree None) (sym c.in_ok-touched.ensures) ∙ sym c.in_ok-tree.ensures.least ∙ c.in-None.is)

pub returns-clause-due : goal.returns-clause-due
returns-clause-due g c =
    λ base before those can.
    due_ok c.args.remove.now c.args.add.now base before c.self.inside.tree (subst (AreTimelinesOf base before) (sym c.self.view_is) those) can c.self.invariant
    c.in_ok-tree.field-0.tree c.in_ok-tree.ensures.rising
    (c.in_ok-tree.ensures.tree ∙ ap (edited_from c.args.remove.now c.args.add.now c.self.inside.tree c.self.inside.tree) c.in_ok-touched.ensures)
    (ap (least_from c.args.remove.now c.args.add.now c.self.inside.tree None) (sym c.in_ok-touched.ensures) ∙ sym c.in_ok-tree.ensures.least ∙ c.in-None.is)

pub returns-clause-steps : goal.returns-clause-steps
returns-clause-steps g c =
    edit_cost c.edit_touched.new.steps c.args.steps.now (values_of c.in_ok-touched.touched.items) c.self.inside.tree c.args.self.now c.args.remove.now c.args.add.now c.edit_touched.ensures.steps c.in_ok-touched.ensures c.self.view_is
