-- The order of statements.
use Rattle.std.specs.declared.cmp.Ordering.{Ordering}
use Rattle.std.specs.Ordering.{ordering_then}
use Rattle.std.specs.declared.cmp.Ordering.TheVariants.{Less, Greater}
use Rattle.nm_ident.specs.Order.{text_cmp, ident_cmp, name_cmp}
use Rattle.nm_statement.specs.declared.object.Object.{Object}
use Rattle.nm_statement.specs.declared.object.Object.TheVariants.{Literal, Resource, Iri}
use Rattle.nm_statement.specs.declared.statement.Statement.{Statement}

-- literals, then resources, then IRIs
abbrev pub object_cmp : Object → Object → Ordering
object_cmp (Literal x) (Literal y) = text_cmp x y
object_cmp (Literal x) _ = Less
object_cmp (Resource x) (Literal y) = Greater
object_cmp (Resource x) (Resource y) = ident_cmp x y
object_cmp (Resource x) (Iri y) = Less
object_cmp (Iri x) (Iri y) = text_cmp x y
object_cmp (Iri x) _ = Greater

-- by subject, predicate and object
abbrev pub statement_cmp : Statement → Statement → Ordering
statement_cmp x y =
    ordering_then (ident_cmp x.subject y.subject)
    (ordering_then (name_cmp x.predicate y.predicate) (object_cmp x.object y.object))
