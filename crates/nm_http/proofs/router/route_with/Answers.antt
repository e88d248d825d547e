use Rattle.std.proofs.Common.{◌≡◌, ◌∙◌, Option, None, Some, Ok, ap, sym}
use Rattle.nm_http.specs.Routing as spec
use Rattle.nm_http.specs.Segments as segments
use Rattle.nm_http.specs.declared.call.Route.{Route}
use Rattle.nm_http.specs.declared.call.Route.TheVariants as routes
use Rattle.nm_http.proofs.router.route_with.Goals as goal

-- a route whose two parameters are there
both_found : {X Y : Type 0} (route : X → Y → Route) (first : Option X) (second : Option Y) (x : X) (y : Y)
    → spec.found first ≡ Ok x → spec.found second ≡ Ok y → spec.found (spec.with_both route first second) ≡ Ok (route x y)
both_found route (Some a) (Some b) x y is_first is_second = cc
both_found route (Some a) None x y is_first is_second = cc
both_found route None second x y is_first is_second = cc

pub returns-in_ok-day-in-Redate : goal.returns-in_ok-day-in-Redate
unfolding spec.route_with
returns-in_ok-day-in-Redate c =
    let rest : c.behind-rest.result.now ≡ segments.behind_segment (segments.behind_segment c.args.text.now) =
    c.behind-rest.ensures ∙ ap segments.behind_segment c.behind-in-Redate.ensures in
    let project : spec.found (spec.project_at c.args.text.now) ≡ Ok c.in_ok-project-in-Redate.project = sym c.in_ok-project-in-Redate.ensures in
    let day : spec.found (spec.day_at (segments.behind_segment (segments.behind_segment c.args.text.now))) ≡ Ok c.in_ok-day-in-Redate.day = rw (← rest) (sym c.in_ok-day-in-Redate.ensures) in
    rw c.in-Redate.is (both_found routes.Redate _ _ _ _ project day)
