use Rattle.std.proofs.Common.{◌≡◌, ◌≤◌, ◌+◌, drop}
use Rattle.nm_http.specs.Framing.{line_ends}
use Rattle.nm_http.proofs.framing.line_ends.Given as goal

abbrev pub invariant-loop-place : goal.invariant-loop-place
invariant-loop-place l = record {
  counted : line_ends l.bytes ≡ l.count + line_ends (drop l.place l.bytes);
  within : l.count ≤ l.place;
}
