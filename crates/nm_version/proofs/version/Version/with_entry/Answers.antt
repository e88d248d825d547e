use Rattle.std.proofs.Common.{◌≡◌, ◌∙◌, ◌++◌, ◌∷◌, List, [], ap, subst, sym, rules}
use Rattle.std.specs.Arc.{arc_value}
use Rattle.nm_check.specs.Timelines.{base_of}
use Rattle.nm_stage.specs.Steps.{steps_of}
use Rattle.nm_statement.specs.declared.statement.Statement.{Statement}
use Rattle.nm_timeline.specs.Timeline.{PlainTimeline}
use Rattle.nm_version.specs.Kept.{Kept}
use Rattle.nm_version.specs.Kept as kept_specs
use Rattle.nm_version.specs.Within.{IsWithin, kept_of}
use Rattle.nm_version.proofs.version.Version.with_entry.Goals as goal

made : (c : goal.In_ok-with) → kept_of c.in_ok-try_clone.field-0 c.in_ok-try_clone-2.field-0 c.live.inside.projects c.timelines.inside.tree c.in_ok-with.field-0
    ≡ kept_specs.with_entry c.args.self.now c.args.live c.args.entry
made c =
    let kept = c.args.self.now in
    let header : arc_value c.in_ok-try_clone.field-0 ≡ arc_value c.self.inside.header = search rules in
    let bytes : arc_value c.in_ok-try_clone-2.field-0 ≡ arc_value c.self.inside.bytes = search rules in
    let statements : base_of c.timelines.inside.tree ≡ kept.base.statements =
    ap base_of (c.timelines.view_is ∙ c.requires.timed) ∙ c.base_is_of_timelines.ensures kept.base.statements (steps_of c.args.live) c.requires.rising in
    let log = c.in_ok-with.ensures ∙ ap (λ (k : Kept). k.log ++ c.args.entry ∷ []) c.self.view_is in
    λ i. record {
      base = record { header = (header ∙ ap (λ (k : Kept). k.base.header) c.self.view_is) i; statements = statements i };
      bytes = (bytes ∙ ap (λ (k : Kept). k.bytes) c.self.view_is) i;
      live = c.live.view_is i;
      log = log i;
    }

pub returns : goal.returns
returns c = made c

pub invariant_of-result-3 : goal.invariant_of-result-3
invariant_of-result-3 c =
    subst (λ (k : Kept). IsWithin k c.timelines.inside.tree c.args.size) (sym (made c))
    (subst (λ (timelines : List (Statement × PlainTimeline)). IsWithin (kept_specs.with_entry c.args.self.now c.args.live c.args.entry) timelines c.args.size) (sym c.timelines.view_is) c.requires)
