use Rattle.std.proofs.Common.{◌≡◌, ◌∙◌, ◌++◌, ◌∷◌, ◌+◌, [], drop, ap, sym, arith}
use Rattle.nm_statement.specs.Set.{union_of}
use Rattle.nm_statement.proofs.Merges.{above_rises, union_turn, union_end}
use Rattle.nm_statement.proofs.merge.either.Goals as goal

pub loop-statement-preserved : goal.loop-statement-preserved
loop-statement-preserved c =
    let left = c.args.left.now in
    let done = c.loop-statement.statements.items in
    let rest = c.loop-statement.rest.now in
    let x = c.statement-item.result in
    let i = c.loop-statement.statement-index in
    let below = c.around.result.0.now in
    let above = c.around.result.2.now in
    let taken : c.push.new.self.items ≡ (done ++ below) ++ x ∷ [] = cc (c.in_ok-push.ensures.items, c.in_ok-append_copies.ensures, c.in_ok-copy.ensures) in
    record {
      rising = above_rises left done rest x i (omega arith) c.statement-item.is c.requires.left below above c.around.result.1 c.around.ensures.whole c.around.ensures.below c.around.ensures.above c.loop-statement.invariant.rising;
      whole = ap (λ l. l ++ union_of (drop (i + 1) left) above) taken
          ∙ union_turn left done rest x i (omega arith) c.statement-item.is c.requires.left below above c.around.result.1 c.around.ensures.whole c.around.ensures.below c.around.ensures.above c.loop-statement.invariant.rising (union_of left c.args.right.now) c.loop-statement.invariant.whole;
    }

pub returns : goal.returns
returns c =
    let left = c.args.left.now in
    let rest = c.loop-statement.rest.now in
    let i = c.loop-statement.statement-index in
    let end : union_of (drop i left) rest ≡ rest = union_end left rest i (omega arith) c.loop-statement.invariant.rising in
    c.in_ok-append_copies-2.ensures ∙ ap (λ l. c.loop-statement.statements.items ++ l) (sym end) ∙ c.loop-statement.invariant.whole
