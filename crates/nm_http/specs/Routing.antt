-- The route of a request, or the status with which it is refused.
use Rattle.std.specs.Prelude.{ℕ, List, ◌&&◌, Option, None, Some, is_none, Result, Ok, Err, if◌then◌else◌}
use Rattle.std.specs.Option.{option_map}
use Rattle.std.specs.Result.{result_ok}
use Rattle.nm_day.specs.Day.{day_of}
use Rattle.nm_ident.specs.Ident.{ident_of_id}
use Rattle.nm_ident.specs.UuidText.{uuid_of}
use Rattle.nm_ident.specs.declared.ident.Ident.{Ident}
use Rattle.nm_http.specs.Call.{takes_document}
use Rattle.nm_http.specs.Paths.{form_of}
use Rattle.nm_http.specs.Segments.{behind_segment, parameters, segment}
use Rattle.nm_http.specs.Table as table
use Rattle.nm_http.specs.declared.call.Call.{Call}
use Rattle.nm_http.specs.declared.call.Call.TheVariants as calls
use Rattle.nm_http.specs.declared.call.Route.{Route}
use Rattle.nm_http.specs.declared.call.Route.TheVariants as routes
use Rattle.nm_http.specs.declared.error.HttpError.{HttpError}
use Rattle.nm_http.specs.declared.error.HttpError.TheVariants.{Status}
use Rattle.nm_http.specs.declared.message.Request.{Request}
use Rattle.nm_http.specs.declared.paths.PathForm.{PathForm}

-- what the first segment of a text is
abbrev pub day_at : List ℕ → Option (List ℕ)
day_at text = result_ok (day_of (segment text))

abbrev pub ident_at : List ℕ → Option Ident
ident_at text = ident_of_id (segment text)

abbrev pub project_at : List ℕ → Option ℕ
project_at text = uuid_of (segment text)

-- a route of two parameters, where both are there
abbrev pub with_both : {X Y : Type 0} → (X → Y → Route) → Option X → Option Y → Option Route
with_both route None second = None
with_both route (Some first) second = option_map (route first) second

-- the route of a call with the parameters, which stand between slashes; in the path of a day of a
-- project, the word `day` stands between its two
unfoldable pub route_with : Call → List ℕ → Option Route
route_with calls.Assemble text = option_map routes.Assemble (day_at text)
route_with calls.Object text = with_both routes.Object (day_at text) (ident_at (behind_segment text))
route_with calls.Timeline text = option_map routes.Timeline (ident_at text)
route_with calls.Projects text = Some routes.Projects
route_with calls.Log text = Some routes.Log
route_with calls.File text = option_map routes.File (day_at text)
route_with calls.Revise text = option_map routes.Revise (project_at text)
route_with calls.Redate text =
    with_both routes.Redate (project_at text) (day_at (behind_segment (behind_segment text)))
route_with calls.Withdraw text = option_map routes.Withdraw (project_at text)

-- 404 where there is none
abbrev pub found : {X : Type 0} → Option X → Result X HttpError
found None = Err (Status 404)
found (Some value) = Ok value

-- 411 where a document is to come and the head gives no length
abbrev pub with_length : Option Call → Option ℕ → Result Call HttpError
with_length None length = Err (Status 405)
with_length (Some call) length = if takes_document call && is_none length then Err (Status 411) else Ok call

-- 405 where the path has no such method
abbrev pub by_form : Option PathForm → Request → Result Call HttpError
by_form None request = Err (Status 404)
by_form (Some form) request = with_length (table.call_of form request.method) request.length

-- 404 where no path fits
abbrev pub call_of : Request → Result Call HttpError
call_of request = by_form (form_of request.path) request

abbrev pub by_call : Result Call HttpError → List ℕ → Result Route HttpError
by_call (Ok call) path = found (route_with call (parameters path))
by_call (Err error) path = Err error

-- the call of the request, and the parameters of its path
abbrev pub route_of : Request → Result Route HttpError
route_of request = by_call (call_of request) request.path

-- the methods of the request's path
abbrev pub allow_of : Request → Option (List ℕ)
allow_of request = option_map table.allow_of (form_of request.path)
