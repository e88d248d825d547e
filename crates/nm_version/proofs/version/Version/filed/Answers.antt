use Rattle.std.proofs.Common.{◌∙◌, sym, ap}
use Rattle.nm_model.specs.declared.document.Document.{Document}
use Rattle.nm_stage.specs.Live.{holds}
use Rattle.nm_stage.specs.Project.{PlainProject}
use Rattle.nm_version.specs.Command.{header_of}
use Rattle.nm_version.proofs.Reached as reached
use Rattle.nm_version.proofs.version.Version.filed.Goals as goal

pub joined-requires : goal.joined-requires
joined-requires c =
    let live = c.args.self.now.live in
    let free = ap (λ (model : Document). holds live (header_of model).id) (sym c.in-Difference.is) ∙ c.requires.free in
    c.projects_can_join.ensures.filed c.in_ok-project.project live c.in-Difference.difference.header.id (reached.live c.args.self.now c.number.ensures.reached)
    (ap (λ (p : PlainProject). p.lineage) c.in_ok-project.ensures) free
