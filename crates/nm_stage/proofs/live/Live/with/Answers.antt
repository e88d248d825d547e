use Rattle.std.proofs.Common.{◌∙◌, subst, ap}
use Rattle.std.proofs.lemmas.Result.{IfOk-weaker}
use Rattle.std.specs.List.Sorted.{IsStrictlySortedBy}
use Rattle.nm_stage.proofs.Filings.{joins_others, new_to_others, with_others_is}
use Rattle.nm_stage.specs.Live.{filing_cmp}
use Rattle.nm_stage.specs.Project.{PlainProject}
use Rattle.nm_stage.proofs.live.Live.with.Goals as goal

pub with_new-requires-2-clause-joins : goal.with_new-requires-2-clause-joins
with_new-requires-2-clause-joins c =
    joins_others c.args.project c.project.inside.filing c.args.self.now c.in_ok-others.others (ap (λ (project : PlainProject). project.filing) c.project.view_is) c.in_ok-others.ensures c.requires

pub with_new-requires-2-clause-new : goal.with_new-requires-2-clause-new
with_new-requires-2-clause-new c =
    new_to_others c.args.project c.project.inside.filing c.args.self.now c.in_ok-others.others (ap (λ (project : PlainProject). project.filing) c.project.view_is) c.in_ok-others.ensures

pub returns : goal.returns
returns c =
    IfOk-weaker c.with_new-2.result _ _
    (λ live made.
    made
    ∙ with_others_is c.args.project c.project.inside.filing c.args.self.now c.in_ok-others.others (ap (λ (project : PlainProject). project.filing) c.project.view_is) c.in_ok-others.ensures
    (subst (IsStrictlySortedBy filing_cmp) c.self.view_is c.self.invariant.0.rising))
    c.with_new-2.ensures
