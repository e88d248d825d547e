use Rattle.std.proofs.Common.{arith}
use Rattle.std.proofs.lemmas.Map.Keys.{sorted_tail}
use Rattle.nm_tree.proofs.removal.+pop_first.Goals as goal

pub balance-requires-clause-rising : goal.balance-requires-clause-rising
balance-requires-clause-rising g t c = sorted_tail _ _ _ (rw c.in_ok-first.ensures.pairs at c.in-Some.ensures.kept.rising)

pub balance-requires-clause-near : goal.balance-requires-clause-near
balance-requires-clause-near g t c =
    let shrunk = c.in_ok-first.ensures.height in
    let balanced = c.in-Some.ensures.kept.balanced in
    (omega arith, omega arith)
