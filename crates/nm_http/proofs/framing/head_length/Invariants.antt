use Rattle.nm_http.proofs.Frames.{IsSought}
use Rattle.nm_http.proofs.framing.head_length.Given as goal

abbrev pub invariant-loop-place : goal.invariant-loop-place
invariant-loop-place l = IsSought l.bytes l.place
