use Rattle.std.proofs.Common.{refl}
use Rattle.nm_text.proofs.Utf8Texts.{texts_by_bytes}
use Rattle.nm_piece.proofs.marked.text_until.Goals as goal

pub returns-in-Some : goal.returns-in-Some
returns-in-Some c = rw (← c.in-Some.ensures, ← texts_by_bytes, ← c.if-is_text.ensures) refl

pub returns-in-Some-2 : goal.returns-in-Some-2
returns-in-Some-2 c = rw (← c.in-Some.ensures, ← texts_by_bytes, ← c.if-is_text.ensures) refl
