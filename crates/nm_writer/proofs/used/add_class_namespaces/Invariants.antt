use Rattle.std.proofs.Common.{◌≡◌, fold, length}
use Rattle.nm_statement.specs.Set.{IsRising}
use Rattle.nm_writer.specs.Canonical.{class_namespaces}
use Rattle.nm_writer.specs.Namespaces.{with_namespace}
use Rattle.nm_writer.proofs.used.add_class_namespaces.Given as goal

-- the classes so far, and those of the rest
abbrev pub invariant-loop-rest : goal.invariant-loop-rest
invariant-loop-rest l = record {
  rising : IsRising l.rest;
  added : fold with_namespace l.namespaces (class_namespaces l.rest) ≡ fold with_namespace l.initial.namespaces (class_namespaces l.statements);
}

abbrev pub decreases-loop-rest : goal.decreases-loop-rest
decreases-loop-rest l = length l.rest
