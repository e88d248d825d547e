use Rattle.std.proofs.Common.{◌≡◌, All, length}
use Rattle.nm_publish.specs.Sight.{sight}
use Rattle.nm_publish.proofs.opening.gates.Given as goal

abbrev pub invariant-loop-place : goal.invariant-loop-place
invariant-loop-place g l = (l.desk ≡ l.initial.desk) × (length l.gates.items ≡ l._place) × All (λ gate. gate ≡ sight l.initial.desk 0) l.gates.items
