-- The text of a UUID (RFC 9562, section 4), and its number.
use Rattle.std.specs.Prelude.{ℕ, ◌==◌, List, Option, None, Bool, ◌||◌, length, if◌then◌else◌}
use Rattle.std.specs.Option.{option_map}
use Rattle.std.specs.Int.{w128, to_be_bytes, from_be_bytes}
use Rattle.nm_terms.specs.Bytes.{is_between, is_digit}
use Rattle.uuid.specs.Text.{lower, hyphenated_text, parsed_hyphenated}

-- the hyphenated text in lower case
unfoldable pub uuid_text : ℕ → List ℕ
uuid_text id = hyphenated_text lower (to_be_bytes w128 id)

-- the number of the UUID whose hyphenated text this is, in either letter case
unfoldable pub uuid_of : List ℕ → Option ℕ
uuid_of text = if length text == 36 then option_map (from_be_bytes w128) (parsed_hyphenated text) else None

-- 0 to 9, a to f, or `-`: the bytes of `uuid_text`
abbrev pub is_uuid_byte : ℕ → Bool
is_uuid_byte byte = is_digit byte || is_between 97 102 byte || (byte == 45)
