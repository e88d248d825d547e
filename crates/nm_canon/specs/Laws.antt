-- What the canonical document of a model keeps to.
use Rattle.std.specs.Prelude.{◌≡◌, ◌↔◌, ℕ, ◌^◌, ◌<◌, ◌≤◌, length, true}
use Rattle.nm_model.specs.Limits.{longest_document}
use Rattle.nm_model.specs.Sound.{is_sound_document, is_sound_within_limits, stated_by}
use Rattle.nm_model.specs.declared.document.Document.{Document}
use Rattle.nm_model.specs.declared.document.Document.TheVariants as document
use Rattle.nm_reader.specs.Input.{IsDocumentOf}
use Rattle.nm_writer.specs.Canonical.{canonical_of}

-- where a sound model is within the limits, and its canonical document too, the document states the model
abbrev pub WhatIsWrittenReadsBack : Type 0
WhatIsWrittenReadsBack =
    (model : Document) → is_sound_within_limits model ≡ true → length (canonical_of model) ≤ longest_document → IsDocumentOf (canonical_of model) model

-- how many statements a model states
abbrev pub number_stated : Document → ℕ
number_stated (document.Full full) = length full.statements
number_stated (document.Difference difference) = stated_by difference.change

-- past the limits too, sound models have the same canonical bytes exactly where they are the same
-- model; numbers of prefixes have 64 digits at most, and so differ only below 10^64
abbrev pub BytesTellModelsApart : Type 0
BytesTellModelsApart =
    (x y : Document) → is_sound_document x ≡ true → is_sound_document y ≡ true → number_stated x < 10 ^ 63 → number_stated y < 10 ^ 63 → (canonical_of x ≡ canonical_of y) ↔ (x ≡ y)
