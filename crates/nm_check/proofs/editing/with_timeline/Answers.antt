use Rattle.std.proofs.Common.{◌∙◌, sym}
use Rattle.nm_check.proofs.Derived.{inserted_is, removed_is}
use Rattle.nm_check.proofs.editing.with_timeline.Goals as goal

pub returns-then-is_blank-clause-tree : goal.returns-then-is_blank-clause-tree
returns-then-is_blank-clause-tree g c =
    removed_is c.remove.result c.args.statement.now c.args.timeline c.args.tree.now (sym c.is_blank.ensures ∙ c.if-is_blank.true) c.remove.ensures.pairs

pub returns-clause-tree : goal.returns-clause-tree
returns-clause-tree g c =
    inserted_is c.insert.result c.args.statement.now c.args.timeline c.args.tree.now c.in_ok-copy.field-0 c.in_ok-copy.ensures (sym c.is_blank.ensures ∙ c.if-is_blank.false) c.insert.ensures.pairs
