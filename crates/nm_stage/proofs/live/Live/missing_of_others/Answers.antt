use Rattle.std.proofs.Common.{◌∙◌, ◌&&◌, ℕ, List, not, sym, subst, ap}
use Rattle.std.specs.Ordering.{is_lt}
use Rattle.nm_day.specs.Key.{key_cmp}
use Rattle.nm_day.specs.declared.key.Key.{Key}
use Rattle.nm_stage.proofs.AfterChange.{others_none, others_some}
use Rattle.nm_stage.proofs.Lives.{other}
use Rattle.nm_stage.specs.Project.{PlainProject, has_id, key_of}
use Rattle.nm_stage.specs.Unmet.{IsFirst, misses}
use Rattle.nm_stage.proofs.live.Live.missing_of_others.Goals as goal

pub returns-in_err-old : goal.returns-in_err-old
returns-in_err-old c =
    let missed = misses c.args.known.now c.args.self.now in
    subst (IsFirst c.args.self.now missed (λ q j. missed q j && other c.args.filing q)) (sym c.from_residual.ensures)
    (others_none c.args.known.now c.args.before.now c.args.self.now c.args.filing c.projects_are_live.ensures c.requires.complete c.requires.same (sym c.in_err-old.ensures))

pub returns : goal.returns
returns c =
    let missed = misses c.args.known.now c.args.self.now in
    others_some c.args.known.now c.args.before.now c.args.self.now c.args.filing c.projects_are_live.ensures c.requires.complete c.requires.same c.in_ok-old.old.now c.missing_of_lineage.result
    (sym c.in_ok-old.ensures)
    (subst (λ (t : List ℕ × Key). IsFirst c.args.self.now missed (λ q j. missed q j && (has_id t.0 j && not (is_lt (key_cmp (key_of q) t.1)))) c.missing_of_lineage.result)
    (λ i. ((c.as_slice.ensures ∙ ap (λ (p : PlainProject). p.lineage) c.old.view_is) i, c.key.ensures i)) c.missing_of_lineage.ensures)
