use Rattle.std.proofs.Common.{◌≡◌, fold, map, take}
use Rattle.nm_writer.specs.Namespaces.{with_namespace}
use Rattle.nm_writer.proofs.used.add_predicate_namespaces.Given as goal

abbrev pub invariant-loop-statement : goal.invariant-loop-statement
invariant-loop-statement l =
    l.namespaces ≡ fold with_namespace l.initial.namespaces (map (λ statement. statement.predicate.ns) (take l.statement-index l.statements))
