use Rattle.std.proofs.Common.{◌∙◌, ◌+◌, sym, ap}
use Rattle.std.specs.Option.{option_map}
use Rattle.nm_stage.specs.Project.{PlainProject}
use Rattle.nm_version.specs.ByTimelines.{filing_or}
use Rattle.nm_version.specs.Kept.{number_of}
use Rattle.nm_version.proofs.version.Version.filing_changed.Goals as goal

pub returns-in-Some : goal.returns-in-Some
returns-in-Some c =
    ap (λ (project : PlainProject). project.filing) c.project.view_is
    ∙ ap (filing_or (number_of c.args.self.now + 1)) (sym (ap (option_map (λ project. project.now)) c.in-Some.is) ∙ c.own_project.ensures)

pub returns-in-None : goal.returns-in-None
returns-in-None c =
    ap (λ n. n + 1) c.number.ensures.number
    ∙ ap (filing_or (number_of c.args.self.now + 1)) (sym (ap (option_map (λ project. project.now)) c.in-None.is) ∙ c.own_project.ensures)
