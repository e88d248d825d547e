-- What spellings stand for, where they are sound.
use Rattle.std.specs.Prelude.{ℕ, List, [], Bool, true, false, not, ◌&&◌, ◌||◌, ◌==◌, Option, None, Some, Ok, Err, if◌then◌else◌}
use Rattle.nm_terms.specs.Bytes.{is_between}
use Rattle.nm_text.specs.Meaning.{cdata_text, run_text}
use Rattle.nm_piece.specs.declared.piece.Attribute.{Attribute}
use Rattle.nm_piece.specs.Reading.{Read}
use Rattle.nm_piece.specs.Tag.{Inside, inside_at}

-- a text, or where there is none the empty one
abbrev pub or_empty : Option (List ℕ) → List ℕ
or_empty None = []
or_empty (Some text) = text

-- what a run or a CDATA section stands for
abbrev pub text_meant : Bool → List ℕ → Option (List ℕ)
text_meant is_cdata spelling = if is_cdata then Some (cdata_text spelling) else run_text spelling

-- whether something was read
abbrev pub is_read : {X : Type 0} → Read X → Bool
is_read (Ok read) = true
is_read (Err unread) = false

-- the attributes, where the rest of a tag was read
abbrev pub attributes_of : Read Inside → List Attribute
attributes_of (Ok read) = read.0.attributes
attributes_of (Err unread) = []

-- the attributes of which the rest of a tag begins with the spellings
abbrev pub attributes_in : List ℕ → List Attribute
attributes_in bytes = attributes_of (inside_at bytes)

-- an ASCII character of XML that is neither `&`, `<` nor `>`
abbrev pub is_plain_character : ℕ → Bool
is_plain_character byte =
    ((byte == 0x9) || (byte == 0xA) || (byte == 0xD) || is_between 0x20 0x7F byte)
    && not ((byte == 38) || (byte == 60) || (byte == 62))

-- whether a byte of a value's spelling is a byte of the value
abbrev pub stands_for_itself : ℕ → Bool
stands_for_itself byte = not ((byte == 38) || (byte == 0x9) || (byte == 0xA) || (byte == 0xD))
