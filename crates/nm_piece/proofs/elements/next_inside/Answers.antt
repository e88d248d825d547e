use Rattle.std.proofs.Common.{◌∙◌, refl, sym}
use Rattle.std.proofs.lemmas.Result.{err_from_is_err_and}
use Rattle.std.proofs.lemmas.Bool.{ne_eqb}
use Rattle.nm_piece.specs.Raw.{attribute_of}
use Rattle.nm_piece.proofs.NextInside.{attributes_here, inside_behind, inside_unread, less_is_left, nothing_here}
use Rattle.nm_piece.proofs.elements.next_inside.Goals as goal

pub returns-in_err-white : goal.returns-in_err-white
returns-in_err-white c =
    let p = err_from_is_err_and c.from_residual.result c.from_residual.ensures.1 in
    rw (p.1, p.2) (inside_unread c.args.bytes.now c.in_err-white.field-0.0 (sym c.in_err-white.ensures))

pub returns-then-byte-eq62 : goal.returns-then-byte-eq62
returns-then-byte-eq62 c = inside_behind c.args.bytes.now c.in_ok-white.rest.now c.in_ok-white.white (sym c.in_ok-white.ensures) ∙ rw (c.in_ok-byte.ensures, c.if-byte-eq62.true) refl

pub returns-in_err-literal : goal.returns-in_err-literal
returns-in_err-literal c =
    let p = err_from_is_err_and c.from_residual-in_err-literal.result c.from_residual-in_err-literal.ensures.1 in
    rw (p.1, p.2)
    (inside_behind c.args.bytes.now c.in_ok-white.rest.now c.in_ok-white.white (sym c.in_ok-white.ensures)
    ∙ rw (c.in_ok-byte.ensures, c.if-byte-eq47.true, ← c.in_err-literal.ensures) refl)

pub returns-in_ok-literal : goal.returns-in_ok-literal
returns-in_ok-literal c =
    inside_behind c.args.bytes.now c.in_ok-white.rest.now c.in_ok-white.white (sym c.in_ok-white.ensures)
    ∙ rw (c.in_ok-byte.ensures, c.if-byte-eq47.true, ← c.in_ok-literal.ensures) refl

pub returns-in_err-attribute : goal.returns-in_err-attribute
returns-in_err-attribute c =
    let p = err_from_is_err_and c.from_residual-in_err-attribute.result c.from_residual-in_err-attribute.ensures.1 in
    rw (p.1, p.2)
    (inside_behind c.args.bytes.now c.in_ok-white.rest.now c.in_ok-white.white (sym c.in_ok-white.ensures)
    ∙ attributes_here c.in_ok-white.rest.now c.in_ok-byte.byte c.in_ok-byte.behind.now c.in_ok-white.white c.in_ok-byte.ensures (ne_eqb c.in_ok-byte.byte 62 c.if-byte-eq62.false) (ne_eqb c.in_ok-byte.byte 47 c.if-byte-eq47.false) c.if-white.true
    ∙ rw (← c.in_err-attribute.ensures) refl)

pub returns-in_ok-attribute : goal.returns-in_ok-attribute
returns-in_ok-attribute c = (
  inside_behind c.args.bytes.now c.in_ok-white.rest.now c.in_ok-white.white (sym c.in_ok-white.ensures)
      ∙ attributes_here c.in_ok-white.rest.now c.in_ok-byte.byte c.in_ok-byte.behind.now c.in_ok-white.white c.in_ok-byte.ensures (ne_eqb c.in_ok-byte.byte 62 c.if-byte-eq62.false) (ne_eqb c.in_ok-byte.byte 47 c.if-byte-eq47.false) c.if-white.true
      ∙ rw (← c.in_ok-attribute.ensures) refl,
  less_is_left c.args.bytes.now c.in_ok-white.rest.now c.in_ok-attribute.behind.now c.in_ok-white.white (attribute_of c.in_ok-attribute.attribute) (sym c.in_ok-white.ensures) (sym c.in_ok-attribute.ensures),
)

pub returns-else-white : goal.returns-else-white
returns-else-white c =
    inside_behind c.args.bytes.now c.in_ok-white.rest.now c.in_ok-white.white (sym c.in_ok-white.ensures)
    ∙ nothing_here c.in_ok-white.rest.now c.in_ok-byte.byte c.in_ok-byte.behind.now c.in_ok-white.white c.in_ok-byte.ensures (ne_eqb c.in_ok-byte.byte 62 c.if-byte-eq62.false) (ne_eqb c.in_ok-byte.byte 47 c.if-byte-eq47.false) c.if-white.false
