-- Which path of the service fits the path of a request: the one that `matchit` finds, given the paths
-- of the table in their order.
use Rattle.std.specs.Prelude.{ℕ, List, [], ◌∷◌, Option, None, Result, Ok, Err, if◌then◌else◌}
use Rattle.std.specs.Option.{option_map}
use Rattle.std.specs.Str.{is_utf8}
use Rattle.matchit.specs.Order.{placed}
use Rattle.matchit.specs.Route.{Scan, parse_route}
use Rattle.matchit.specs.Router.{RouteOf, route_from}
use Rattle.matchit.specs.Rows.{RowsOf}
use Rattle.matchit.specs.Seek.{first}
use Rattle.matchit.specs.declared.error.InsertError.{InsertError}
use Rattle.nm_http.specs.Table.{path_of}
use Rattle.nm_http.specs.declared.paths.PathForm.{PathForm}
use Rattle.nm_http.specs.declared.paths.PathForm.TheVariants.{Assembly, Object, Timeline, Projects, Log, Filing, Project, ProjectDay}

-- the paths with one more, where it is well spelt
abbrev pub with_read : Result Scan InsertError → RowsOf (RouteOf PathForm) → PathForm → RowsOf (RouteOf PathForm)
with_read (Ok scan) paths form = placed (scan.pattern, route_from scan form) paths
with_read (Err error) paths form = paths

unfoldable pub with_path : RowsOf (RouteOf PathForm) → PathForm → RowsOf (RouteOf PathForm)
with_path paths form = with_read (parse_route (path_of form)) paths form

abbrev pub with_paths : RowsOf (RouteOf PathForm) → List PathForm → RowsOf (RouteOf PathForm)
with_paths paths [] = paths
with_paths paths (form ∷ forms) = with_paths (with_path paths form) forms

abbrev pub forms : List PathForm
forms = Assembly ∷ Object ∷ Timeline ∷ Projects ∷ Log ∷ Filing ∷ Project ∷ ProjectDay ∷ []

abbrev pub all_paths : RowsOf (RouteOf PathForm)
all_paths = with_paths [] forms

abbrev pub form_at : List ℕ → Option PathForm
form_at text = option_map (λ route. route.value) (first all_paths text)

-- a path that is no UTF-8 fits none
unfoldable pub form_of : List ℕ → Option PathForm
form_of path = if is_utf8 path then form_at path else None
