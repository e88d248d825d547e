-- The table of the routes: nine methods of eight paths.
use Rattle.std.specs.Prelude.{ℕ, List, [], ◌∷◌, ◌++◌, codes, map, Option, None, Some, if◌then◌else◌}
use Rattle.nm_terms.specs.Bytes.{same_text}
use Rattle.nm_http.specs.declared.call.Call.{Call}
use Rattle.nm_http.specs.declared.call.Call.TheVariants as calls
use Rattle.nm_http.specs.declared.paths.PathForm.{PathForm}
use Rattle.nm_http.specs.declared.paths.PathForm.TheVariants.{Assembly, Object, Timeline, Projects, Log, Filing, Project, ProjectDay}

-- a path, and the calls of its methods
pub record Row : Type 0 where
  pub path : List ℕ
  pub methods : List (List ℕ × Call)

-- a path with one method
abbrev pub row : List ℕ → List ℕ → Call → Row
row path method call = record { path = path; methods = (method, call) ∷ [] }

abbrev pub row_of : PathForm → Row
row_of Assembly = row (codes "/assembly/{day}") (codes "GET") calls.Assemble
row_of Object = row (codes "/object/{day}/{id}") (codes "GET") calls.Object
row_of Timeline = row (codes "/timeline/{id}") (codes "GET") calls.Timeline
row_of Projects = row (codes "/projects") (codes "GET") calls.Projects
row_of Log = row (codes "/log") (codes "GET") calls.Log
row_of Filing = row (codes "/projects/{day}") (codes "POST") calls.File
row_of Project = record {
  path = codes "/project/{project}";
  methods = (codes "PUT", calls.Revise) ∷ (codes "DELETE", calls.Withdraw) ∷ [];
}
row_of ProjectDay = row (codes "/project/{project}/day/{day}") (codes "PUT") calls.Redate

abbrev pub path_of : PathForm → List ℕ
path_of form = (row_of form).path

-- the call of a method, which is told apart by the case of its letters too
abbrev pub call_among : List (List ℕ × Call) → List ℕ → Option Call
call_among [] method = None
call_among (one ∷ others) method = if same_text method one.0 then Some one.1 else call_among others method

abbrev pub call_of : PathForm → List ℕ → Option Call
call_of form method = call_among (row_of form).methods method

-- texts with a comma and a space between them
abbrev pub listed : List (List ℕ) → List ℕ
listed [] = []
listed (text ∷ []) = text
listed (text ∷ other ∷ others) = text ++ codes ", " ++ listed (other ∷ others)

-- the methods of a path, as an `Allow` field lists them
abbrev pub allow_of : PathForm → List ℕ
allow_of form = listed (map (λ one. one.0) (row_of form).methods)
