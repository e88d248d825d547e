use Rattle.std.proofs.Common.{◌≡◌, ◌≤◌}
use Rattle.nm_publish.proofs.gate.Gate.enter_at_last.Given as goal

-- what was missed changed nothing but the count
abbrev pub invariant-loop : goal.invariant-loop
invariant-loop g l =
    ((goal.iterator-loop g).can_next l.iterator' × (goal.iterator-loop g).is_finite l.iterator')
    × (l.self ≡ l.initial.self) × (l.initial.misses ≤ l.misses)
