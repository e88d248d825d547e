use Rattle.nm_text.proofs.Fronts.{front_of_text, text_goes_on}
use Rattle.nm_text.proofs.Utf8Texts.{texts_by_bytes}
use Rattle.nm_text.proofs.laws.texts_are_told_by_bytes.Goals as goal

pub returns : goal.returns
returns c = record { same = texts_by_bytes; goes_on = text_goes_on; front = front_of_text }
