use Rattle.std.proofs.Common.{◌∙◌, sym, refl}
use Rattle.nm_text.proofs.Utf8Texts.{texts_by_bytes}
use Rattle.nm_piece.proofs.Meant.{plain_run, runs_are}
use Rattle.nm_piece.proofs.Splits.{no_bytes, some_bytes}
use Rattle.nm_piece.proofs.runs.is_run.Goals as goal

pub returns-then-is_plain : goal.returns-then-is_plain
returns-then-is_plain c = c.if-is_plain.true ∙ sym (plain_run c.args.bytes.now (some_bytes c.args.bytes.now (sym c.if-not-is_empty.ensures)) (sym c.if-is_plain.ensures))

pub returns-then-is_unmarked_text : goal.returns-then-is_unmarked_text
returns-then-is_unmarked_text c =
    c.are_references_sound.ensures.strays ∙ sym (runs_are c.args.bytes.now ∙ rw (some_bytes c.args.bytes.now (sym c.if-not-is_empty.ensures), ← texts_by_bytes, ← c.if-is_unmarked_text.ensures) refl)

pub returns-else-is_unmarked_text : goal.returns-else-is_unmarked_text
returns-else-is_unmarked_text c =
    c.if-is_unmarked_text.false ∙ sym (runs_are c.args.bytes.now ∙ rw (some_bytes c.args.bytes.now (sym c.if-not-is_empty.ensures), ← texts_by_bytes, ← c.if-is_unmarked_text.ensures) refl)

pub returns-else-not-is_empty : goal.returns-else-not-is_empty
returns-else-not-is_empty c = rw c.if-not-is_empty.false (sym (runs_are c.args.bytes.now ∙ rw (no_bytes c.args.bytes.now (sym c.is_empty.ensures ∙ c.if-not-is_empty.false)) refl))
