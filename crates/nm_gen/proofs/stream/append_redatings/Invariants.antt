use Rattle.std.proofs.Common.{◌≡◌, ◌++◌, ◌-◌, ◌/◌}
use Rattle.nm_gen.specs.Draws.{state_after}
use Rattle.nm_gen.specs.Stream as spec
use Rattle.nm_gen.proofs.stream.append_redatings.Given as goal

abbrev pub invariant-loop-number : goal.invariant-loop-number
invariant-loop-number l = record {
  text : l.out.items ≡ l.fn.out.items ++ spec.redatings l.fn.draws.state (l.number - 1);
  state : l.draws.state ≡ state_after l.fn.draws.state ((l.number - 1) / 3);
}
