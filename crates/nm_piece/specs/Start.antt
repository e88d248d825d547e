-- The XML declaration (XML 1.0, section 2.8).
use Rattle.std.specs.Prelude.{ℕ, List, [], ◌∷◌, length, Bool, true, false, ◌&&◌, ◌||◌, nat_le, nat_eq, Option, None, Some, Ok, codes, if◌then◌else◌}
use Rattle.std.specs.List.{list_all, starts_with}
use Rattle.nm_terms.specs.Bytes.{is_letter, same_text}
use Rattle.nm_ident.specs.Name.{continues_name}
use Rattle.nm_piece.specs.declared.piece.Piece.{Piece}
use Rattle.nm_piece.specs.declared.piece.Piece.TheVariants.{Start}
use Rattle.nm_piece.specs.Name.{equals_at, gap_at, space_at}
use Rattle.nm_piece.specs.Reading.{Read, ◌>>=◌, choice, literal_at}
use Rattle.nm_piece.specs.Tag.{behind_white}
use Rattle.nm_piece.specs.Value.{quoted_at}

-- ---- the values

-- whether some text is one of these, of which none begins another
abbrev pub version_of : List ℕ → Option (Unit {0})
version_of bytes = if same_text bytes (codes "1.0") then Some tt else None

abbrev pub begins_version : List ℕ → Bool
begins_version = starts_with nat_eq (codes "1.0")

-- the longest name of an encoding, in bytes
abbrev pub longest_encoding : ℕ
longest_encoding = 40

-- a letter, and then letters, digits, `.`, `_` and `-` (XML 1.0, section 4.3.3: EncName)
abbrev pub is_encoding : List ℕ → Bool
is_encoding [] = false
is_encoding (byte ∷ bytes) =
    is_letter byte && list_all continues_name bytes && nat_le (length (byte ∷ bytes)) longest_encoding

abbrev pub encoding_of : List ℕ → Option (List ℕ)
encoding_of bytes = if is_encoding bytes then Some bytes else None

abbrev pub begins_encoding : List ℕ → Bool
begins_encoding [] = true
begins_encoding (byte ∷ bytes) = is_encoding (byte ∷ bytes)

abbrev pub standalone_of : List ℕ → Option (Unit {0})
standalone_of bytes = if same_text bytes (codes "yes") || same_text bytes (codes "no") then Some tt else None

abbrev pub begins_standalone : List ℕ → Bool
begins_standalone bytes = starts_with nat_eq (codes "yes") bytes || starts_with nat_eq (codes "no") bytes

-- ---- the settings, each behind white space

-- `?` has come
abbrev pub start_end : Option (List ℕ) → List ℕ → Read Piece
start_end encoding bytes = literal_at (codes ">") bytes >>= λ sign. Ok (Start encoding, sign.1)

-- whether the document stands alone, and the end
unfoldable pub standalone_at : Option (List ℕ) → List ℕ → Read Piece
standalone_at encoding bytes =
    literal_at (codes "standalone") bytes >>= λ word. equals_at word.1 >>= λ sign.
    quoted_at standalone_of begins_standalone sign.1 >>= λ value. gap_at value.1 >>= λ gap.
    literal_at (codes "?") gap.1 >>= λ mark. start_end encoding mark.1

-- what follows the encoding
unfoldable pub behind_encoding : Option (List ℕ) → List ℕ → Read Piece
behind_encoding encoding bytes =
    gap_at bytes >>= λ gap. choice 63 (start_end encoding) (behind_white gap.0 (standalone_at encoding)) gap.1

-- the encoding behind its `e`, and what follows it
unfoldable pub encoding_at : List ℕ → Read Piece
encoding_at bytes =
    literal_at (codes "ncoding") bytes >>= λ word. equals_at word.1 >>= λ sign.
    quoted_at encoding_of begins_encoding sign.1 >>= λ value. behind_encoding (Some value.0) value.1

-- what follows the version
unfoldable pub behind_version : List ℕ → Read Piece
behind_version bytes =
    gap_at bytes >>= λ gap.
    choice 63 (start_end None)
    (behind_white gap.0 (choice 101 encoding_at (standalone_at None))) gap.1

-- the version, and what follows it
unfoldable pub version_at : List ℕ → Read Piece
version_at bytes =
    literal_at (codes "version") bytes >>= λ word. equals_at word.1 >>= λ sign.
    quoted_at version_of begins_version sign.1 >>= λ value. behind_version value.1

-- an XML declaration behind its `<?xml`
unfoldable pub start_at : List ℕ → Read Piece
start_at bytes = space_at bytes >>= λ space. version_at space.1
