use Rattle.std.proofs.Common.{◌≡◌, ◌∙◌, sym, refl, true, false}
use Rattle.nm_ident.specs.QualifiedName.{QualifiedName}
use Rattle.nm_writer.specs.Canonical.{split_iri}
use Rattle.nm_writer.specs.Namespaces.{is_rdf}
use Rattle.nm_writer.proofs.Classes.{class_of_iri-none, class_of_iri-is, split_iri-found}
use Rattle.nm_writer.proofs.element.class_of_iri.Goals as goal
use Rattle.nm_writer.proofs.element.class_of_iri.Goals.{else-is_predicate-via-then-is_predicate+else-not-is_rdf, else-is_predicate-via-else-is_predicate}

pub returns-in_err-local_length : goal.returns-in_err-local_length
returns-in_err-local_length c =
    rw c.from_residual.ensures (class_of_iri-none c.args.iri.now (sym c.local_length.ensures ∙ c.in_err-local_length.was))

pub returns-then-not-is_rdf : goal.returns-then-not-is_rdf
returns-then-not-is_rdf c =
    let iri = c.args.iri.now in
    let name : QualifiedName = record { ns = c.split_at.result.0.now; local = c.split_at.result.1.now } in
    let found = split_iri-found iri c.in_ok-local_length.field-0 (sym c.local_length.ensures ∙ c.in_ok-local_length.was) in
    let is : split_iri iri ≡ name = found.1 ∙ (λ i. record { ns = sym c.split_at.ensures.front i; local = sym c.split_at.ensures.back i }) in
    class_of_iri-is iri name true false is (sym c.is_predicate.ensures ∙ c.if-is_predicate.true) (sym c.is_rdf.ensures ∙ c.if-not-is_rdf.true)

pub returns-else-is_predicate : goal.returns-else-is_predicate
returns-else-is_predicate c =
    let iri = c.args.iri.now in
    let name : QualifiedName = record { ns = c.split_at.result.0.now; local = c.split_at.result.1.now } in
    let found = split_iri-found iri c.in_ok-local_length.field-0 (sym c.local_length.ensures ∙ c.in_ok-local_length.was) in
    let is : split_iri iri ≡ name = found.1 ∙ (λ i. record { ns = sym c.split_at.ensures.front i; local = sym c.split_at.ensures.back i }) in
    elim c.else-is_predicate.branch [
      | else-is_predicate-via-then-is_predicate+else-not-is_rdf w ↦
          class_of_iri-is iri name true true is (sym c.is_predicate.ensures ∙ w.if-is_predicate.true) (sym w.is_rdf.ensures ∙ w.if-not-is_rdf.false)
      | else-is_predicate-via-else-is_predicate w ↦
          class_of_iri-is iri name false (is_rdf name.ns) is (sym c.is_predicate.ensures ∙ w.if-is_predicate.false) refl
    ]
