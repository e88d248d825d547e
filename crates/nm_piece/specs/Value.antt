-- Values between quotes (XML 1.0, sections 2.3 and 3.1).
use Rattle.std.specs.Prelude.{ℕ, List, [], ◌∷◌, Bool, true, not, ◌&&◌, ◌||◌, ◌==◌, Option, None, is_none, Ok, Err, if◌then◌else◌}
use Rattle.nm_text.specs.Meaning.{attribute_value}
use Rattle.nm_text.specs.Reference.{begins_name as begins_reference, first_stray, has_reference}
use Rattle.nm_text.specs.Split.{lacks}
use Rattle.nm_text.specs.Utf8.{begins_text, spells_text}
use Rattle.nm_piece.specs.declared.unread.Unread.TheVariants.{NoPiece}
use Rattle.nm_piece.specs.Reading.{Read, ◌>>=◌, choice, literal_at, segment_at}

-- no reading, whatever comes
abbrev pub nothing_at : {X : Type 0} → List ℕ → Read X
nothing_at bytes = Err NoPiece

-- a value up to this quote, and the quote
abbrev pub closed_at : {X : Type 0} → ℕ → (List ℕ → Option X) → (List ℕ → Bool) → List ℕ → Read X
closed_at quote value begins bytes =
    segment_at (λ byte. byte == quote) value begins bytes >>= λ inside.
    literal_at (quote ∷ []) inside.1 >>= λ closing. Ok (inside.0, closing.1)

-- a value between two `"` or two `'`
abbrev pub quoted_at : {X : Type 0} → (List ℕ → Option X) → (List ℕ → Bool) → List ℕ → Read X
quoted_at value begins = choice 34 (closed_at 34 value begins) (choice 39 (closed_at 39 value begins) nothing_at)

-- ---- references

-- whether each `&` begins a reference
abbrev pub are_references : List ℕ → Bool
are_references bytes = is_none (first_stray bytes)

-- whether what stands behind a `&` can become a reference when more comes
abbrev pub is_open_reference : List ℕ → Bool
is_open_reference bytes = lacks 59 bytes && begins_reference bytes

-- whether each `&` begins a reference, or can still begin one
abbrev pub begins_references : List ℕ → Bool
begins_references [] = true
begins_references (byte ∷ bytes) =
    (not (byte == 38) || has_reference bytes || is_open_reference bytes) && begins_references bytes

-- ---- the value of an attribute

-- what characters and references without `<` stand for
unfoldable pub value_of : List ℕ → Option (List ℕ)
value_of bytes = if spells_text bytes && lacks 60 bytes && are_references bytes then attribute_value bytes else None

unfoldable pub begins_value : List ℕ → Bool
begins_value bytes = begins_text bytes && lacks 60 bytes && begins_references bytes
