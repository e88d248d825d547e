use Rattle.std.proofs.Common.{◌≡◌, ◌++◌, ◌-◌}
use Rattle.nm_gen.specs.Stream as spec
use Rattle.nm_gen.proofs.stream.append_withdrawals.Given as goal

abbrev pub invariant-loop-number : goal.invariant-loop-number
invariant-loop-number l = l.out.items ≡ l.fn.out.items ++ spec.withdrawals (l.number - 1)
