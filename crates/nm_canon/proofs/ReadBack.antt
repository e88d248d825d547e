-- Reading the canonical document of a model gives the model, and reading any other document none.
use Rattle.std.proofs.Common.{◌≡◌, ◌∙◌, ℕ, ◌≤◌, List, length, Bool, true, false, Ok, Err, refl, sym, ap, subst}
use Rattle.std.specs.Cmp.Lexicographic.{bytes_decides}
use Rattle.nm_terms.specs.Bytes.{same_text}
use Rattle.nm_terms.specs.Due.{OrWant}
use Rattle.nm_model.specs.Limits.{longest_document}
use Rattle.nm_model.specs.declared.document.Document.{Document}
use Rattle.nm_reader.proofs.Readings.{documents_are_read}
use Rattle.nm_reader.specs.Input.{IsDocumentOf}
use Rattle.nm_reader.specs.Read.{read_due, wants_memory as read_wants_memory}
use Rattle.nm_reader.specs.declared.error.ReadError.{ReadError}
use Rattle.nm_reader.specs.declared.error.ReadError.TheVariants as read_error
use Rattle.nm_writer.specs.Canonical.{canonical_of}
use Rattle.nm_canon.proofs.Again.{read_back}
use Rattle.nm_canon.specs.Reading.{IsCanonicalOf, IsReadBack, canonical_due, error_of, if_canonical}
use Rattle.nm_canon.specs.declared.error.CanonicalError.{CanonicalError}
use Rattle.nm_canon.specs.declared.error.CanonicalError.TheVariants as canonical_error

read_is_due : (model : Document) (bytes : List ℕ) → IsCanonicalOf model bytes → read_due bytes ≡ Ok model
read_is_due model bytes canonical =
    let short = subst (λ (bytes : List ℕ). length bytes ≤ longest_document) (sym canonical.spelt) canonical.short in
    (documents_are_read bytes model).1 (subst (λ (bytes : List ℕ). IsDocumentOf bytes model) canonical.spelt (read_back model canonical.kept short))

spelt_so : (model : Document) (bytes : List ℕ) → same_text (canonical_of model) bytes ≡ true → if_canonical bytes (Ok model) ≡ Ok model
spelt_so model bytes same = rw same refl

model_is_due : (model : Document) (bytes : List ℕ) → IsCanonicalOf model bytes → canonical_due bytes ≡ Ok model
model_is_due model bytes canonical =
    ap (if_canonical bytes) (read_is_due model bytes canonical) ∙ spelt_so model bytes ((bytes_decides (canonical_of model) bytes).1 canonical.spelt)

none_is_due : (bytes : List ℕ) → canonical_due bytes ≡ Err canonical_error.NotCanonical → (model : Document) → IsCanonicalOf model bytes → ⊥
none_is_due bytes none model canonical = let due = model_is_due model bytes canonical in cc

-- bytes that are no document are no canonical document
pub unread : (bytes : List ℕ) (why : ReadError) (error : CanonicalError) → error ≡ error_of why → OrWant (read_wants_memory why) (read_due bytes ≡ Err why) → IsReadBack (Err error) bytes
unread bytes (read_error.Fault fault) error is due =
    subst (λ (error : CanonicalError). IsReadBack (Err error) bytes) (sym is) (none_is_due bytes (ap (if_canonical bytes) due))
unread bytes read_error.NoMemory error is due = subst (λ (error : CanonicalError). IsReadBack (Err error) bytes) (sym is) tt

differs : (bytes : List ℕ) (model : Document) (same : Bool) → same_text (canonical_of model) bytes ≡ same → same ≡ false → if_canonical bytes (Ok model) ≡ Err canonical_error.NotCanonical
differs bytes model same is not = rw (is, not) refl

-- bytes that are spelt otherwise than what is written of their model are none
pub spelt_otherwise : (bytes written : List ℕ) (model : Document) → read_due bytes ≡ Ok model → written ≡ canonical_of model → same_text written bytes ≡ false → (other : Document) → IsCanonicalOf other bytes → ⊥
spelt_otherwise bytes written model due is not =
    none_is_due bytes (ap (if_canonical bytes) due ∙ differs bytes model (same_text written bytes) (ap (λ (text : List ℕ). same_text text bytes) (sym is)) not)
