use Rattle.std.proofs.Common.{◌≡◌, map}
use Rattle.std.specs.List.{range_with_len}
use Rattle.nm_writer.specs.Namespaces.{prefix_at}
use Rattle.nm_writer.proofs.prefixes.Namespaces.prefixes.Given as goal

abbrev pub invariant-loop-place : goal.invariant-loop-place
invariant-loop-place l = l.prefixes.items ≡ map (prefix_at l.cim) (range_with_len 0 l.place)
