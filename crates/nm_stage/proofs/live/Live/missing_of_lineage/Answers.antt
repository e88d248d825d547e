use Rattle.std.proofs.Common.{◌&&◌, ◌==◌, not, sym, subst}
use Rattle.std.specs.Ordering.{is_lt}
use Rattle.nm_day.specs.Key.{key_cmp}
use Rattle.nm_stage.proofs.AfterChange.{none_of_none, one_more}
use Rattle.nm_stage.specs.Project.{PlainProject, key_of}
use Rattle.nm_stage.specs.Unmet.{IsFirst, misses}
use Rattle.nm_stage.specs.declared.listed.Dependent.{Dependent}
use Rattle.nm_stage.proofs.live.Live.missing_of_lineage.Goals as goal

pub loop-id-init : goal.loop-id-init
loop-id-init c = none_of_none c.args.self.now (misses c.args.known.now c.args.self.now) (λ q. not (is_lt (key_cmp (key_of q) c.args.key.now)))

pub loop-id-preserved : goal.loop-id-preserved
loop-id-preserved c =
    let live = c.args.self.now in
    let missed = misses c.args.known.now live in
    let behind = λ (q : PlainProject). not (is_lt (key_cmp (key_of q) c.args.key.now)) in
    let ids = c.args.ids.now in
    subst (IsFirst live missed _) (sym c.earlier-first.ensures)
    (one_more live missed behind ids c.loop-id.id-index c.loop-id-test.true c.loop-id.first c.missing_at.result c.loop-id.invariant
    (subst (λ (from : Dependent). IsFirst live missed (λ q j. missed q j && ((j == from.dependency) && not (is_lt (key_cmp (key_of q) from.key)))) c.missing_at.result) c.of_id.ensures c.missing_at.ensures))
