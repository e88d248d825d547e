use Rattle.std.proofs.Common.{◌≡◌, ◌++◌, take, flat_map}
use Rattle.nm_writer.specs.Canonical.{property_line}
use Rattle.nm_writer.proofs.element.append_properties.Given as goal

abbrev pub invariant-loop-statement : goal.invariant-loop-statement
invariant-loop-statement l = l.out.items ≡ l.initial.out.items ++ flat_map (property_line l.prefixes) (take l.statement-index l.statements)
