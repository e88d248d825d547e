use Rattle.std.proofs.Common.{◌≡◌, ◌∙◌, sym}
use Rattle.std.specs.declared.cmp.Ordering.TheVariants.{Less}
use Rattle.nm_statement.specs.Order.{statement_cmp}
use Rattle.nm_statement.proofs.Merges.{within, taken_below, others_above, all_above, all_of_none}
use Rattle.nm_statement.proofs.merge.around.Goals as goal
use Rattle.nm_statement.proofs.merge.around.Goals.{in_default-via-in-Some+else-eq, in_default-via-in_default}

pub split_at-requires : goal.split_at-requires
split_at-requires c = within c.args.statements.now c.args.statement.now c.count_below.result c.count_below.ensures

pub returns-in-Some-clause-below : goal.returns-in-Some-clause-below
returns-in-Some-clause-below c =
    taken_below c.args.statements.now c.args.statement.now c.count_below.result c.count_below.ensures c.split_at.result.0.now c.split_at.ensures.front

pub returns-in-Some-clause-above : goal.returns-in-Some-clause-above
returns-in-Some-clause-above c =
    (others_above c.args.statements.now c.args.statement.now c.count_below.result c.count_below.ensures c.requires
    c.split_at.result.1.now c.split_at.ensures.back c.in-Some.first.now c.in-Some.above.now c.in-Some.ensures.cases.0
    (sym c.eq.ensures ∙ c.if-eq.true)).1

pub returns-in_default-clause-below : goal.returns-in_default-clause-below
returns-in_default-clause-below c =
    taken_below c.args.statements.now c.args.statement.now c.count_below.result c.count_below.ensures c.split_at.result.0.now c.split_at.ensures.front

pub returns-in_default-clause-above : goal.returns-in_default-clause-above
returns-in_default-clause-above c =
    elim c.in_default.branch [
      | in_default-via-in-Some+else-eq w ↦
          all_above c.args.statements.now c.args.statement.now c.count_below.result c.count_below.ensures c.requires
          c.split_at.result.1.now c.split_at.ensures.back w.in-Some.first.now w.in-Some.above.now w.in-Some.ensures.cases.0
          (sym w.eq.ensures ∙ w.if-eq.false)
      | in_default-via-in_default w ↦ all_of_none (λ s. statement_cmp c.args.statement.now s ≡ Less) c.split_at.result.1.now w.in_default.ensures.cases
    ]
