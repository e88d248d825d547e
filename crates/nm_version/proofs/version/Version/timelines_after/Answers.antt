use Rattle.std.proofs.Common.{◌≡◌, ◌∙◌, Err, sym, ap, subst}
use Rattle.nm_model.specs.declared.header.Header.{Header}
use Rattle.nm_stage.specs.Dependencies.{missing_of}
use Rattle.nm_stage.specs.Live.{without_filing}
use Rattle.nm_stage.specs.Steps.{steps_of}
use Rattle.nm_check.specs.EditError.{wants_memory as wants_memory_of_edit}
use Rattle.nm_check.specs.Kept.{due_after}
use Rattle.nm_check.specs.declared.breaks.EditError.{EditError}
use Rattle.nm_terms.specs.Due.{IsDue, OrWant}
use Rattle.nm_version.specs.ByTimelines.{timelines_due}
use Rattle.nm_version.specs.Refusal.{wants_memory}
use Rattle.nm_version.specs.Replay.{known_before}
use Rattle.nm_version.specs.declared.refusal.Refusal.{Refusal}
use Rattle.nm_version.proofs.ByTimelines.{break_refused, missing_refused, timelines_given, want_from}
use Rattle.nm_version.proofs.version.Version.timelines_after.Goals as goal

pub missing_since-requires : goal.missing_since-requires
missing_since-requires g c = record {
  complete = (λ i. missing_of (known_before (c.header.ensures i)) (c.live_projects.ensures.projects i)) ∙ c.dependencies_are_met.ensures;
  same = ap (without_filing c.args.filing) c.live_projects.ensures.projects ∙ c.requires.others;
}

pub returns-in-Some-clause-timelines : goal.returns-in-Some-clause-timelines
returns-in-Some-clause-timelines g c =
    let kept = c.args.self.now in
    let missed = c.in_ok-missing.ensures ∙ ap (λ (h : Header). missing_of (known_before h) c.args.live.now) c.header.ensures in
    let edited = c.in-Ok.ensures.due kept.base.statements (steps_of kept.live) c.timelines.ensures c.requires.edit.can in
    subst (λ (r : Refusal). OrWant (wants_memory r) (timelines_due kept.base c.args.live.now ≡ Err r)) (sym c.refusal_of.ensures)
    (missing_refused kept.base c.args.live.now c.projects_are_live.ensures c.args.taken.now c.args.added.now (steps_of kept.live) c.requires.edit.edited
    c.in_ok-missing.missing missed c.in-Ok.timelines edited (c.in-Some.key, c.in-Some.id) c.in-Some.is)

pub returns-in-None-clause-timelines : goal.returns-in-None-clause-timelines
returns-in-None-clause-timelines g c =
    let kept = c.args.self.now in
    let missed = c.in_ok-missing.ensures ∙ ap (λ (h : Header). missing_of (known_before h) c.args.live.now) c.header.ensures in
    let edited = c.in-Ok.ensures.due kept.base.statements (steps_of kept.live) c.timelines.ensures c.requires.edit.can in
    timelines_given kept.base c.args.live.now c.projects_are_live.ensures c.args.taken.now c.args.added.now (steps_of kept.live) c.requires.edit.edited
    c.in_ok-missing.missing missed c.in-Ok.timelines edited c.in-None.is

pub returns-in-Err-Break-clause-timelines : goal.returns-in-Err-Break-clause-timelines
returns-in-Err-Break-clause-timelines g c =
    let kept = c.args.self.now in
    let missed = c.in_ok-missing.ensures ∙ ap (λ (h : Header). missing_of (known_before h) c.args.live.now) c.header.ensures in
    let edited = c.in-Err-Break.ensures.due kept.base.statements (steps_of kept.live) c.timelines.ensures c.requires.edit.can in
    want_from (wants_memory c.refusal_of_lesser.result) _
    (break_refused kept.base c.args.live.now c.projects_are_live.ensures c.args.taken.now c.args.added.now (steps_of kept.live) c.requires.edit.edited
    c.in_ok-missing.missing missed c.in-Err-Break.found (subst (λ (e : EditError). IsDue wants_memory_of_edit (Err e) (due_after kept.base.statements c.args.taken.now c.args.added.now (steps_of kept.live))) c.in-Err-Break.field-0-is edited) c.refusal_of_lesser.result c.refusal_of_lesser.ensures)
