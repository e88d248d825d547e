use Rattle.std.proofs.Common.{◌∙◌, sym, refl}
use Rattle.nm_text.proofs.Utf8Texts.{texts_by_bytes}
use Rattle.nm_piece.proofs.Meant.{plain_value, values_are}
use Rattle.nm_piece.proofs.quotes.is_value.Goals as goal

pub returns-then-is_plain : goal.returns-then-is_plain
returns-then-is_plain c = c.if-is_plain.true ∙ sym (plain_value c.args.bytes.now (sym c.if-is_plain.ensures))

pub returns-then-is_untagged_text : goal.returns-then-is_untagged_text
returns-then-is_untagged_text c = c.are_references_sound.ensures.strays ∙ sym (values_are c.args.bytes.now ∙ rw (← texts_by_bytes, ← c.if-is_untagged_text.ensures) refl)

pub returns-else-is_untagged_text : goal.returns-else-is_untagged_text
returns-else-is_untagged_text c = sym (values_are c.args.bytes.now ∙ rw (← texts_by_bytes, ← c.if-is_untagged_text.ensures, c.if-is_untagged_text.false) refl)
