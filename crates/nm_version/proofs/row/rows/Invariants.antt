use Rattle.std.proofs.Common.{◌≡◌, map, take}
use Rattle.nm_version.specs.Projects.{row_of}
use Rattle.nm_version.proofs.row.rows.Given as goal

abbrev pub invariant-loop-project : goal.invariant-loop-project
invariant-loop-project l = l.rows.items ≡ map (λ project. row_of project.now) (take l.project-index l.projects)
