use Rattle.std.proofs.Common.{◌∙◌, sym, ap}
use Rattle.std.specs.Option.{is_some}
use Rattle.nm_stage.proofs.Beside.{is_some-map}
use Rattle.nm_stage.proofs.Filings.{holds_is}
use Rattle.nm_stage.specs.Live.{holder_of, holds}
use Rattle.nm_stage.specs.Listed.{holder}
use Rattle.nm_stage.specs.Project.{PlainProject}
use Rattle.nm_stage.proofs.live.Live.holds.Goals as goal

pub returns-clause-held : goal.returns-clause-held
returns-clause-held c =
    let live = c.self.inside.projects in
    c.is_some.ensures
    ∙ sym (is_some-map (λ one. one.now) c.find.result)
    ∙ ap is_some (c.find.ensures ∙ c.self.invariant.1.held c.args.id)
    ∙ is_some-map (λ (project : PlainProject). holder project.filing c.args.id) (holder_of c.args.id live)
    ∙ holds_is c.args.id live
    ∙ ap (λ l. holds l c.args.id) c.self.view_is
