use Rattle.std.proofs.Common.{◌≡◌, ◌++◌, length}
use Rattle.std.specs.List.{list_all}
use Rattle.nm_reader.specs.Context.{scope_in}
use Rattle.nm_reader.specs.Namespaces as spec
use Rattle.nm_reader.proofs.namespaces.have_declared_prefixes.Given as goal

abbrev pub invariant-loop-rest : goal.invariant-loop-rest
invariant-loop-rest l =
    list_all (λ attribute. spec.has_declared_prefix (spec.declaration_of attribute) (l.own ++ scope_in l.elements) attribute) l.rest
    ≡ list_all (λ attribute. spec.has_declared_prefix (spec.declaration_of attribute) (l.own ++ scope_in l.elements) attribute) l.attributes

abbrev pub decreases-loop-rest : goal.decreases-loop-rest
decreases-loop-rest l = length l.rest
