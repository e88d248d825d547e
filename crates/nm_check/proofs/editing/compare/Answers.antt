use Rattle.std.proofs.Common.{◌∙◌, ap}
use Rattle.std.specs.Ordering.{ordering_then}
use Rattle.nm_statement.proofs.Orders.{derived-statement_cmp}
use Rattle.nm_check.proofs.Derived.{derived-part_cmp}
use Rattle.nm_check.proofs.editing.compare.Goals as goal

pub returns : goal.returns
returns c =
    c.then-2.ensures ∙ ap (ordering_then c.cmp-by_key.result) c.then.ensures
    ∙ (λ i. ordering_then (c.cmp-by_key.ensures i) (ordering_then ((c.cmp-by_part.ensures ∙ derived-part_cmp c.args.part.now c.args.other.now.part) i) ((c.cmp-by_statement.ensures ∙ derived-statement_cmp c.args.statement.now c.args.other.now.statement) i)))
