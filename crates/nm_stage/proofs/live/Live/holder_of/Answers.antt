use Rattle.std.proofs.Common.{◌∙◌, sym, ap}
use Rattle.nm_stage.proofs.Beside.{held_at}
use Rattle.nm_stage.specs.Live.{filed_as, holder_of}
use Rattle.nm_stage.proofs.live.Live.holder_of.Goals as goal

pub returns-clause-found : goal.returns-clause-found
returns-clause-found c =
    let live = c.self.inside.projects in
    c.filed_as.ensures
    ∙ ap (filed_as c.in_ok-holder.holder.now.filing) (sym c.self.view_is)
    ∙ held_at c.args.id c.in_ok-holder.holder.now live c.self.invariant.0.rising (c.in_ok-holder.ensures ∙ c.self.invariant.1.held c.args.id)
    ∙ ap (holder_of c.args.id) c.self.view_is
