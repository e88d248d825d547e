-- Reading a canonical document back.
use Rattle.std.specs.Prelude.{◌≡◌, ◌≤◌, ℕ, List, length, Bool, true, false, Result, Ok, Err, if◌then◌else◌}
use Rattle.nm_terms.specs.Bytes.{same_text}
use Rattle.nm_model.specs.Limits.{longest_document}
use Rattle.nm_model.specs.Sound.{is_sound_within_limits}
use Rattle.nm_model.specs.declared.document.Document.{Document}
use Rattle.nm_reader.specs.Read.{read_due}
use Rattle.nm_reader.specs.declared.error.ReadError.{ReadError}
use Rattle.nm_reader.specs.declared.error.ReadError.TheVariants as read_error
use Rattle.nm_writer.specs.Canonical.{canonical_of}
use Rattle.nm_canon.specs.declared.error.CanonicalError.{CanonicalError}
use Rattle.nm_canon.specs.declared.error.CanonicalError.TheVariants as canonical_error

-- the bytes are the canonical document of the model, both within the limits
pub record IsCanonicalOf (model : Document) (bytes : List ℕ) : Type 0 where
  pub kept : is_sound_within_limits model ≡ true
  pub short : length bytes ≤ longest_document
  pub spelt : canonical_of model ≡ bytes

-- the model is that of the bytes, or there is none; want of memory says nothing
abbrev pub IsReadBack : Result Document CanonicalError → List ℕ → Type 0
IsReadBack (Ok model) bytes = IsCanonicalOf model bytes
IsReadBack (Err canonical_error.NotCanonical) bytes = (model : Document) → IsCanonicalOf model bytes → ⊥
IsReadBack (Err canonical_error.NoMemory) bytes = Unit {0}

abbrev pub wants_memory : CanonicalError → Bool
wants_memory canonical_error.NotCanonical = false
wants_memory canonical_error.NoMemory = true

-- what is no document is no canonical document
abbrev pub error_of : ReadError → CanonicalError
error_of (read_error.Fault fault) = canonical_error.NotCanonical
error_of read_error.NoMemory = canonical_error.NoMemory

-- the model that was read, where the bytes are the spelling of it that is written
abbrev pub if_canonical : List ℕ → Result Document ReadError → Result Document CanonicalError
if_canonical bytes (Ok model) = if same_text (canonical_of model) bytes then Ok model else Err canonical_error.NotCanonical
if_canonical bytes (Err why) = Err (error_of why)

-- what reading the bytes back is due
abbrev pub canonical_due : List ℕ → Result Document CanonicalError
canonical_due bytes = if_canonical bytes (read_due bytes)
