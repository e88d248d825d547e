use Rattle.std.proofs.Common.{◌≡◌, ◌+◌, length}
use Rattle.nm_publish.specs.Reader.{shares_of}
use Rattle.nm_publish.proofs.laws.merge_all.Given as goal

abbrev pub invariant-loop-other : goal.invariant-loop-other
invariant-loop-other g l = (l.all.parts ≡ l.initial.all.parts + length l.yielded) × (l.all.amount ≡ l.initial.all.amount + shares_of l.yielded)
