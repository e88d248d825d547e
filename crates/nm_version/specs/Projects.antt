-- The rows of the live projects.
use Rattle.std.specs.Prelude.{List, map}
use Rattle.nm_stage.specs.Project.{PlainProject, id_of, model_of}
use Rattle.nm_stage.specs.Steps.{in_order}
use Rattle.nm_version.specs.declared.row.Row.{Row}

-- a project with its day and its current model
abbrev pub row_of : PlainProject → Row
row_of project = record { project = id_of project; day = project.day; current = model_of project }

-- the rows in the order of the steps
abbrev pub rows_of : List PlainProject → List Row
rows_of live = map row_of (in_order live)
