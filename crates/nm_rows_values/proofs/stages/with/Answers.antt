use Rattle.std.proofs.Common.{◌∙◌, ◌++◌, ◌∷◌, [], sym, subst, ap}
use Rattle.nm_stage.specs.Live.{IsLive, holds, without_filing}
use Rattle.nm_stage.proofs.Joins.{joins_alone}
use Rattle.nm_rows_values.proofs.stages.with.Goals as goal

pub with-requires : goal.with-requires
with-requires c =
    joins_alone _ c.args.live.now c.args.id
    (subst IsLive c.in_ok-others.ensures c.holds.ensures.live)
    (c.of_list.ensures ∙ c.in_ok-push.ensures.items ∙ ap (λ l. l ++ c.args.id ∷ []) c.new-lineage.ensures.items)
    (ap (λ others. holds others c.args.id) (sym c.in_ok-others.ensures) ∙ sym c.holds.ensures.held ∙ c.if-holds.false)

pub returns : goal.returns
returns c = ap (without_filing c.args.filing) c.in_ok-with.ensures ∙ c.changes_leave_others.ensures.with _ c.args.live.now c.projects_are_live.ensures
