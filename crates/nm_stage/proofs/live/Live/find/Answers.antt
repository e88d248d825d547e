use Rattle.std.proofs.Common.{◌∙◌, Bor, sym, ap}
use Rattle.std.specs.Option.{option_map}
use Rattle.nm_stage.proofs.Filings.{first_is, first_is_not, first_only, project_is}
use Rattle.nm_stage.specs.Project.{PlainProject}
use Rattle.nm_stage.proofs.live.Live.find.Goals as goal

pub returns-in_err-found-clause-found : goal.returns-in_err-found-clause-found
returns-in_err-found-clause-found c =
    ap (option_map (λ (found : Bor PlainProject). found.now)) c.from_residual.ensures
    ∙ ap (first_only c.args.project) c.in_err-found.ensures.found
    ∙ sym (project_is c.args.project c.args.self.now c.holder_of.ensures.live.lineages c.holder_of.ensures.live.apart)

pub returns-then-id-project-clause-found : goal.returns-then-id-project-clause-found
returns-then-id-project-clause-found c =
    first_is c.args.project c.in_ok-found.found.now (sym c.id.ensures ∙ c.if-id-project.true)
    ∙ ap (first_only c.args.project) c.in_ok-found.ensures.found
    ∙ sym (project_is c.args.project c.args.self.now c.holder_of.ensures.live.lineages c.holder_of.ensures.live.apart)

pub returns-else-id-project-clause-found : goal.returns-else-id-project-clause-found
returns-else-id-project-clause-found c =
    first_is_not c.args.project c.in_ok-found.found.now (λ e. c.if-id-project.false (c.id.ensures ∙ e))
    ∙ ap (first_only c.args.project) c.in_ok-found.ensures.found
    ∙ sym (project_is c.args.project c.args.self.now c.holder_of.ensures.live.lineages c.holder_of.ensures.live.apart)
