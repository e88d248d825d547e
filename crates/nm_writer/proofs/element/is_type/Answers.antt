use Rattle.std.proofs.Common.{◌≡◌, ◌∙◌, sym, ap, ◌&&◌, true, false, codes}
use Rattle.nm_terms.specs.Bytes.{same_text}
use Rattle.nm_writer.specs.Namespaces.{is_rdf}
use Rattle.nm_writer.proofs.Classes.{is_type-is}
use Rattle.nm_writer.proofs.element.is_type.Goals as goal

pub returns-then-is_rdf : goal.returns-then-is_rdf
returns-then-is_rdf c =
    let name = c.args.predicate.now in
    let rdf : is_rdf name.ns ≡ true = ap is_rdf (sym (c.as_slice.ensures ∙ c.ns.ensures)) ∙ sym c.is_rdf.ensures ∙ c.if-is_rdf.true in
    c.eq.ensures
    ∙ (λ i. same_text ((c.as_slice-then-is_rdf.ensures ∙ c.local.ensures) i) (c.as_slice-then-is_rdf-2.ensures i))
    ∙ sym (is_type-is name ∙ ap (λ b. b && same_text name.local (codes "type")) rdf)

pub returns-else-is_rdf : goal.returns-else-is_rdf
returns-else-is_rdf c =
    let name = c.args.predicate.now in
    let other : is_rdf name.ns ≡ false = ap is_rdf (sym (c.as_slice.ensures ∙ c.ns.ensures)) ∙ sym c.is_rdf.ensures ∙ c.if-is_rdf.false in
    c.if-is_rdf.false ∙ sym (is_type-is name ∙ ap (λ b. b && same_text name.local (codes "type")) other)
