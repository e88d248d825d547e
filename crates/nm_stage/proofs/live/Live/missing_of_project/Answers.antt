use Rattle.std.proofs.Common.{◌≡◌, ◌∙◌, ◌&&◌, ◌==◌, ℕ, List, Bool, true, false, Some, get_or, sym, subst, ap, arith}
use Rattle.std.proofs.lemmas.List.{take_all}
use Rattle.nm_day.specs.declared.key.Key.{Key}
use Rattle.nm_stage.proofs.AfterChange.{item_has, none_more, none_of_none, one_more, own_all, own_met, own_unmet}
use Rattle.nm_stage.specs.Project.{PlainProject, has_id}
use Rattle.nm_stage.specs.Unmet.{IsFirst, is_met, misses}
use Rattle.nm_stage.proofs.live.Live.missing_of_project.Goals as goal
use Rattle.nm_stage.proofs.live.Live.missing_of_project.Goals.{then-not-is_met, else-not-is_met}

pub loop-id-init : goal.loop-id-init
loop-id-init c = none_of_none c.args.self.now (misses c.args.known.now c.args.self.now) (λ q. q.filing == c.args.project.now.filing)

pub loop-id-preserved : goal.loop-id-preserved
loop-id-preserved c =
    let live = c.args.self.now in
    let known = c.args.known.now in
    let project = c.args.project.now in
    let missed = misses known live in
    let own = λ (q : PlainProject). q.filing == project.filing in
    let ids = c.as_slice-id-items.result.now in
    let id = get_or ids c.loop-id.id-index 0 in
    let has = ap (λ ds. has_id ds id) (sym (c.as_slice-id-items.ensures ∙ ap (λ (p : PlainProject). p.dependencies) c.project.view_is)) ∙ item_has ids c.loop-id.id-index c.loop-id-test.true in
    let met = λ (b : Bool) (e : c.is_met.result ≡ b). ap (λ (key : Key). is_met known live key id) (sym c.key-key.ensures) ∙ sym c.is_met.ensures ∙ e in
    elim c.if-not-is_met.branch [
      | then-not-is_met w ↦ (subst (IsFirst live missed _) (sym (w.first-is ∙ w.earlier-first.ensures))
          (one_more live missed own ids c.loop-id.id-index c.loop-id-test.true c.loop-id.first (Some (c.key-key.result, id)) c.loop-id.invariant
          (subst (λ (key : Key). IsFirst live missed (λ q j. missed q j && ((j == id) && (q.filing == project.filing))) (Some (key, id))) (sym c.key-key.ensures) (own_unmet known live project c.projects_are_live.ensures c.requires id has (met false w.if-not-is_met.true)))))
      | else-not-is_met w ↦ (subst (IsFirst live missed _) (sym w.first-is)
          (none_more live missed own ids c.loop-id.id-index c.loop-id-test.true c.loop-id.first c.loop-id.invariant
          (own_met known live project c.projects_are_live.ensures c.requires id (met true w.if-not-is_met.false))))
    ]

pub returns : goal.returns
returns c =
    let live = c.args.self.now in
    let known = c.args.known.now in
    let project = c.args.project.now in
    let missed = misses known live in
    own_all known live project c.projects_are_live.ensures c.requires c.loop-id.first
    (subst (λ (ids : List ℕ). IsFirst live missed (λ q j. missed q j && (has_id ids j && (q.filing == project.filing))) c.loop-id.first)
    (take_all c.loop-id.id-index c.as_slice-id-items.result.now (omega (arith, c.loop-id-test.false)) ∙ c.as_slice-id-items.ensures ∙ ap (λ (p : PlainProject). p.dependencies) c.project.view_is) c.loop-id.invariant)
