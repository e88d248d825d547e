use Rattle.std.proofs.Common.{◌≡◌}
use Rattle.nm_reader.specs.Draft.{drafted as drafted_of}
use Rattle.nm_reader.proofs.draft.draft_of.Given as goal

abbrev pub invariant-loop-fact : goal.invariant-loop-fact
invariant-loop-fact l = l.draft ≡ drafted_of l.yielded
