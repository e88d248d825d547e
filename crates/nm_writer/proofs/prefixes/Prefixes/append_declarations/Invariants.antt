use Rattle.std.proofs.Common.{◌≡◌, ◌++◌, length, drop}
use Rattle.std.specs.List.{flat_map, enumerate_from}
use Rattle.nm_writer.specs.Canonical.{declaration, declarations}
use Rattle.nm_writer.specs.Namespaces.{cim_place, prefix_at}
use Rattle.nm_writer.proofs.prefixes.Prefixes.append_declarations.Given as goal

abbrev pub invariant-loop-ns : goal.invariant-loop-ns
invariant-loop-ns l =
    l.out.items
    ++ flat_map (λ entry. declaration (prefix_at (cim_place l.self) entry.0) entry.1) (enumerate_from (length l.yielded) (drop (length l.yielded) l.self))
    ≡ l.initial.out.items ++ declarations l.self
