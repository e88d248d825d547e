use Rattle.std.proofs.Common.{◌∙◌, ℕ, Some, not, ap, sym, nat_cmp}
use Rattle.std.specs.BTreeSet.{contains}
use Rattle.nm_stage.proofs.Missing.{least_kept, least_taken}
use Rattle.nm_stage.proofs.dependencies.least_unmet.Goals as goal
use Rattle.nm_stage.proofs.dependencies.least_unmet.Goals.{then-not-contains, else-not-contains}

pub loop-id-preserved : goal.loop-id-preserved
loop-id-preserved c =
    let test = λ (id : ℕ). not (contains nat_cmp c.args.reached.now id) in
    elim c.if-not-contains.branch [
      | then-not-contains w ↦ w.least-is ∙ ap Some w.lesser.ensures ∙ least_taken test c.args.dependencies.now c.loop-id.id-index c.loop-id-test.true c.loop-id.least c.loop-id.invariant (ap not (sym c.contains.ensures ∙ w.if-not-contains.true))
      | else-not-contains w ↦ w.least-is ∙ least_kept test c.args.dependencies.now c.loop-id.id-index c.loop-id-test.true c.loop-id.least c.loop-id.invariant (ap not (sym c.contains.ensures ∙ w.if-not-contains.false))
    ]
