use Rattle.std.proofs.Common.{◌≡◌, ◌+◌, All, length}
use Rattle.nm_publish.specs.Reader.{starting}
use Rattle.nm_publish.proofs.opening.readers.Given as goal

abbrev pub invariant-loop-gate : goal.invariant-loop-gate
invariant-loop-gate g l =
    (length l.readers.items ≡ length l.yielded) × (l.shares.parts + length l.yielded ≡ l.initial.shares.parts) × (l.shares.amount ≡ 0)
    × All (λ reader. reader ≡ starting g.H.Site.opening) l.readers.items
