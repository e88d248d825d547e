-- The steps of the live projects, in order.
use Rattle.std.specs.Prelude.{List, map}
use Rattle.std.specs.declared.cmp.Ordering.{Ordering}
use Rattle.nm_day.specs.Key.{key_cmp}
use Rattle.nm_stage.specs.Project.{PlainProject, PlainStep, key_of, step_of}
use Rattle.nm_stage.specs.Sorted.{sorted_by}

abbrev pub project_cmp : PlainProject → PlainProject → Ordering
project_cmp x y = key_cmp (key_of x) (key_of y)

-- the projects in the order of their keys
abbrev pub in_order : List PlainProject → List PlainProject
in_order live = sorted_by project_cmp live

abbrev pub steps_of : List PlainProject → List PlainStep
steps_of live = map step_of (in_order live)
