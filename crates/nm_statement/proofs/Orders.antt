-- The orders of objects and statements are total, tell all values apart, and are those of the types' `cmp`.
use Rattle.std.proofs.Common.{◌≡◌, ◌∙◌, refl, subst, ap}
use Rattle.std.specs.Cmp.{IsTotalOrder}
use Rattle.std.specs.Ordering.{eq_by_cmp, is_eq, ordering_then}
use Rattle.std.specs.declared.cmp.Ordering.TheVariants.{Equal}
use Rattle.nm_ident.proofs.Orders.{ident_cmp-equal, name_cmp-equal, text_cmp-equal, then_equal, derived-ident_cmp}
use Rattle.nm_ident.specs.Order.{ident_cmp, name_cmp}
use Rattle.nm_statement.specs.Order.{object_cmp, statement_cmp}
use Rattle.nm_statement.specs.contracts.object.ObjectOrd.TheImpl as object_ord
use Rattle.nm_statement.specs.contracts.statement.StatementOrd.TheImpl as statement_ord
use Rattle.nm_statement.specs.contracts.statement.StatementOrd.TheImpl.Laws as statement_laws
use Rattle.nm_statement.specs.contracts.statement.StatementPartialEq.TheImpl as statement_eq
use Rattle.nm_statement.specs.declared.object.Object.{Object}
use Rattle.nm_statement.specs.declared.object.Object.TheVariants.{Literal, Resource, Iri}
use Rattle.nm_statement.specs.declared.statement.Statement.{Statement}

-- the order of each type's `cmp` is the defined one
pub derived-object_cmp : (x y : Object) → object_ord.ghosts.cmp x y ≡ object_cmp x y
derived-object_cmp (Literal x) (Literal y) = refl
derived-object_cmp (Literal x) (Resource y) = refl
derived-object_cmp (Literal x) (Iri y) = refl
derived-object_cmp (Resource x) (Literal y) = refl
derived-object_cmp (Resource x) (Resource y) = derived-ident_cmp x y
derived-object_cmp (Resource x) (Iri y) = refl
derived-object_cmp (Iri x) (Literal y) = refl
derived-object_cmp (Iri x) (Resource y) = refl
derived-object_cmp (Iri x) (Iri y) = refl

pub derived-statement_cmp : (x y : Statement) → statement_ord.ghosts.cmp x y ≡ statement_cmp x y
derived-statement_cmp x y =
    λ i. ordering_then (derived-ident_cmp x.subject y.subject i)
    (ordering_then (name_cmp x.predicate y.predicate) (derived-object_cmp x.object y.object i))

pub statement_cmp-total : IsTotalOrder statement_cmp
statement_cmp-total = subst IsTotalOrder (λ i x y. derived-statement_cmp x y i) statement_laws.total-law

-- `==` holds of statements that stand level
pub derived-eq : (x y : Statement) → statement_eq.ghosts.eq x y ≡ eq_by_cmp statement_cmp x y
derived-eq x y = statement_laws.matches_eq-law x y ∙ ap is_eq (derived-statement_cmp x y)

-- objects and statements that stand level are the same
pub object_cmp-equal : (x y : Object) → object_cmp x y ≡ Equal → x ≡ y
object_cmp-equal (Literal x) (Literal y) tie = ap Literal (text_cmp-equal x y tie)
object_cmp-equal (Literal x) (Resource y) tie = cc
object_cmp-equal (Literal x) (Iri y) tie = cc
object_cmp-equal (Resource x) (Literal y) tie = cc
object_cmp-equal (Resource x) (Resource y) tie = ap Resource (ident_cmp-equal x y tie)
object_cmp-equal (Resource x) (Iri y) tie = cc
object_cmp-equal (Iri x) (Literal y) tie = cc
object_cmp-equal (Iri x) (Resource y) tie = cc
object_cmp-equal (Iri x) (Iri y) tie = ap Iri (text_cmp-equal x y tie)

pub statement_cmp-equal : (x y : Statement) → statement_cmp x y ≡ Equal → x ≡ y
statement_cmp-equal x y tie =
    let first = then_equal (ident_cmp x.subject y.subject) (ordering_then (name_cmp x.predicate y.predicate) (object_cmp x.object y.object)) tie in
    let others = then_equal (name_cmp x.predicate y.predicate) (object_cmp x.object y.object) first.1 in
    let subject : x.subject ≡ y.subject = ident_cmp-equal x.subject y.subject first.0 in
    let predicate : x.predicate ≡ y.predicate = name_cmp-equal x.predicate y.predicate others.0 in
    let object : x.object ≡ y.object = object_cmp-equal x.object y.object others.1 in
    λ i. record { subject = subject i; predicate = predicate i; object = object i }
