-- Worked examples of routes, computed.
use Rattle.std.proofs.Common.{◌≡◌, [], ◌∷◌, codes, Some, None, Err, false, refl}
use Rattle.std.specs.Str.{chars, is_utf8}
use lib.Utf8.{encode}
use Rattle.matchit.proofs.OnLiterals.{matchit_on_literals}
use Rattle.nm_day.specs.Day.{is_day}
use Rattle.nm_ident.specs.declared.ident.Ident.TheVariants.{Local}
use Rattle.nm_http.specs.Paths.{form_of, with_path}
use Rattle.nm_http.specs.Routing.{route_of, route_with}
use Rattle.nm_http.specs.Table as table
use Rattle.nm_http.specs.declared.call.Call.TheVariants as calls
use Rattle.nm_http.specs.declared.call.Route.TheVariants as routes
use Rattle.nm_http.specs.declared.error.HttpError.TheVariants.{Status}
use Rattle.nm_http.specs.declared.paths.PathForm.TheVariants.{Log, Project}

log : form_of (codes "/log") ≡ Some Log
unfolding form_of with_path matchit_on_literals chars is_utf8 encode
log = refl

-- a segment that is empty is no parameter
no_project : form_of (codes "/projects/") ≡ None
unfolding form_of with_path matchit_on_literals chars is_utf8 encode
no_project = refl

-- a query is a part of its segment
with_query : form_of (codes "/log?a") ≡ None
unfolding form_of with_path matchit_on_literals chars is_utf8 encode
with_query = refl

no_slash : form_of (codes "log") ≡ None
unfolding form_of with_path matchit_on_literals chars is_utf8 encode
no_slash = refl

no_text : form_of (47 ∷ 255 ∷ []) ≡ None
unfolding form_of with_path matchit_on_literals chars is_utf8 encode
no_text = refl

withdrawn : table.call_of Project (codes "DELETE") ≡ Some calls.Withdraw
withdrawn = refl

small_letters : table.call_of Log (codes "get") ≡ None
small_letters = refl

two_methods : table.allow_of Project ≡ codes "PUT, DELETE"
two_methods = refl

day : route_with calls.File (codes "2027-04-01") ≡ Some (routes.File (codes "2027-04-01"))
unfolding route_with is_day
day = refl

no_day : route_with calls.Assemble (codes "2027-02-29") ≡ None
unfolding route_with is_day
no_day = refl

object : route_with calls.Object (codes "2027-04-01/north") ≡ Some (routes.Object (codes "2027-04-01") (Local (codes "north")))
unfolding route_with is_day
object = refl

-- 405 comes before the 404 of a bad day
wrong_method : route_of (record { method = codes "PUT"; path = codes "/projects"; length = None; close = false; expect = false })
    ≡ Err (Status 405)
unfolding form_of with_path matchit_on_literals chars is_utf8 encode
wrong_method = refl

-- 411 comes before the 404 of a bad day
no_length : route_of (record { method = codes "POST"; path = codes "/projects/2027-02-29"; length = None; close = false; expect = false })
    ≡ Err (Status 411)
unfolding form_of with_path matchit_on_literals chars is_utf8 encode
no_length = refl

bad_day : route_of (record { method = codes "POST"; path = codes "/projects/2027-02-29"; length = Some 1; close = false; expect = false })
    ≡ Err (Status 404)
unfolding form_of with_path route_with is_day matchit_on_literals chars is_utf8 encode
bad_day = refl
