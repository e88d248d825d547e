use Rattle.std.proofs.Common.{arith}
use Rattle.nm_tree.proofs.removal.join.Goals as goal

pub balance-requires-clause-rising : goal.balance-requires-clause-rising
balance-requires-clause-rising g c = rw c.in_ok-first.ensures.pairs at c.requires.rising

pub balance-requires-clause-near : goal.balance-requires-clause-near
balance-requires-clause-near g c =
    let shrunk = c.in_ok-first.ensures.height in
    let near = c.requires.near in
    (omega arith, omega arith)
