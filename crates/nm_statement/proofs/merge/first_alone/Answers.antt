use Rattle.std.proofs.Common.{◌≡◌, ◌∙◌, ◌++◌, ◌∷◌, ◌+◌, [], Bool, List, drop, if◌then◌else◌, ap, sym, subst, arith}
use Rattle.nm_statement.specs.Set.{IsRising, minus_of}
use Rattle.nm_statement.specs.declared.statement.Statement.{Statement}
use Rattle.nm_statement.proofs.Merges.{above_rises, minus_turn}
use Rattle.nm_statement.proofs.merge.first_alone.Goals as goal
use Rattle.nm_statement.proofs.merge.first_alone.Goals.{then-not-found+in_ok-copy+in_ok-push, else-not-found}

pub loop-statement-preserved : goal.loop-statement-preserved
loop-statement-preserved c =
    let left = c.args.left.now in
    let done = c.loop-statement.statements.items in
    let x = c.statement-item.result in
    let i = c.loop-statement.statement-index in
    let below = c.around-found.result.0.now in
    let found = c.around-found.result.1 in
    let above = c.around-found.result.2.now in
    let kept : Bool → List Statement = λ f. if f then done else done ++ x ∷ [] in
    let kept_is : c.if-not-found.statements.items ≡ kept found =
    elim c.if-not-found.branch [
      | then-not-found+in_ok-copy+in_ok-push w ↦
          let pushed : c.if-not-found.statements.items ≡ done ++ x ∷ [] = cc (w.statements-is, w.in_ok-push.ensures.items, w.in_ok-copy.ensures) in
          pushed ∙ ap kept (sym w.if-not-found.true)
      | else-not-found w ↦ ap (λ v. v.items) w.statements-is ∙ ap kept (sym w.if-not-found.false)
    ]
    in
    let rest_is : c.if-not-found.rest.now ≡ above =
    elim c.if-not-found.branch [
      | then-not-found+in_ok-copy+in_ok-push w ↦ ap (λ r. r.now) w.rest-is
      | else-not-found w ↦ ap (λ r. r.now) w.rest-is
    ]
    in
    record {
      rising = subst IsRising (sym rest_is) (above_rises left done c.loop-statement.rest.now x i (omega arith) c.statement-item.is c.requires.left below above found c.around-found.ensures.whole c.around-found.ensures.below c.around-found.ensures.above c.loop-statement.invariant.rising);
      whole = (λ k. kept_is k ++ minus_of (drop (i + 1) left) (rest_is k))
          ∙ minus_turn left done c.loop-statement.rest.now x i (omega arith) c.statement-item.is c.requires.left below above found c.around-found.ensures.whole c.around-found.ensures.below c.around-found.ensures.above (minus_of left c.args.right.now) c.loop-statement.invariant.whole;
    }
