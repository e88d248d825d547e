-- References to characters (XML 1.0, sections 4.1 and 4.6), and what bytes with references stand for.
use Rattle.std.specs.Prelude.{ℕ, suc, List, [], ◌∷◌, ◌++◌, Bool, true, not, ◌&&◌, ◌||◌, ◌==◌, nat_le, nat_eq, Option, None, Some, is_some, option_and_then, codes, encode_utf8, if◌then◌else◌}
use Rattle.std.specs.Char.{is_digit}
use Rattle.std.specs.Fmt.{option_append}
use Rattle.std.specs.List.{list_all, starts_with}
use Rattle.std.specs.Option.{option_map}
use Rattle.std.specs.Str.Parse.{digits_value}
use Rattle.nm_terms.specs.Bytes.{same_text}
use Rattle.nm_text.specs.Characters.{is_character}

-- ---- the name of a reference: what stands between `&` and `;`

-- one of the five names that need no declaration
abbrev pub predefined : List ℕ → Option ℕ
predefined name =
    if same_text name (codes "lt") then Some 60
    else if same_text name (codes "gt") then Some 62
    else if same_text name (codes "amp") then Some 38
    else if same_text name (codes "quot") then Some 34
    else if same_text name (codes "apos") then Some 39
    else None

abbrev pub are_digits : ℕ → List ℕ → Bool
are_digits radix = list_all (λ digit. is_digit digit radix)

-- the character of this number, if it is one
abbrev pub character_of : ℕ → Option ℕ
character_of number = if is_character number then Some number else None

-- the number that the digits write, where it is at most U+10FFFF
abbrev pub number_of : ℕ → List ℕ → Option ℕ
number_of radix digits =
    if are_digits radix digits && nat_le (digits_value radix digits) 0x10FFFF then Some (digits_value radix digits) else None

-- one digit or more, with any number of zeros before them
abbrev pub numbered : ℕ → List ℕ → Option ℕ
numbered radix [] = None
numbered radix (digit ∷ digits) = option_and_then character_of (number_of radix (digit ∷ digits))

-- behind `#`: hexadecimal digits behind `x`, or decimal digits
abbrev pub by_number : List ℕ → Option ℕ
by_number [] = None
by_number (mark ∷ digits) = if mark == 120 then numbered 16 digits else numbered 10 (mark ∷ digits)

-- the character that a reference of this name stands for
unfoldable pub referred : List ℕ → Option ℕ
referred [] = None
referred (mark ∷ name) = if mark == 35 then by_number name else predefined (mark ∷ name)

-- ---- the name of a reference that has not ended

abbrev pub begins_numbered : ℕ → List ℕ → Bool
begins_numbered radix digits = is_some (number_of radix digits)

-- a number goes on while it is at most U+10FFFF
abbrev pub begins_by_number : List ℕ → Bool
begins_by_number [] = true
begins_by_number (mark ∷ digits) =
    if mark == 120 then begins_numbered 16 digits else begins_numbered 10 (mark ∷ digits)

abbrev pub begins_predefined : List ℕ → Bool
begins_predefined name =
    starts_with nat_eq (codes "lt") name || starts_with nat_eq (codes "gt") name || starts_with nat_eq (codes "amp") name
    || starts_with nat_eq (codes "quot") name || starts_with nat_eq (codes "apos") name

-- whether the name of a reference begins so
unfoldable pub begins_name : List ℕ → Bool
begins_name [] = true
begins_name (mark ∷ name) = if mark == 35 then begins_by_number name else begins_predefined (mark ∷ name)

-- ---- bytes with references

abbrev pub with_first : ℕ → List ℕ × List ℕ → List ℕ × List ℕ
with_first byte parts = (byte ∷ parts.0, parts.1)

-- what stands before the first `;`, and behind it
abbrev pub name_at : List ℕ → Option (List ℕ × List ℕ)
name_at [] = None
name_at (byte ∷ bytes) = if byte == 59 then Some ([], bytes) else option_map (with_first byte) (name_at bytes)

abbrev pub named : List ℕ × List ℕ → Option (ℕ × List ℕ)
named parts = option_map (λ character. (character, parts.1)) (referred parts.0)

-- the character of the reference that stands here, its `&` apart, and what stands behind it
abbrev pub reference_at : List ℕ → Option (ℕ × List ℕ)
reference_at bytes = option_and_then named (name_at bytes)

abbrev pub has_reference : List ℕ → Bool
has_reference bytes = is_some (reference_at bytes)

-- the place of the first `&` that begins no reference
abbrev pub first_stray : List ℕ → Option ℕ
first_stray [] = None
first_stray (byte ∷ bytes) =
    if (byte == 38) && not (has_reference bytes) then Some 0 else option_map suc (first_stray bytes)

-- what has come of a reference's name, if one is open, behind one more byte
abbrev pub name_after : Option (List ℕ) → ℕ → Option (List ℕ)
name_after None byte = if byte == 38 then Some [] else None
name_after (Some name) byte = if byte == 59 then None else Some (name ++ byte ∷ [])

-- what a byte stands for: itself, or behind a reference's name and with `;` its character
abbrev pub meant_by : Option (List ℕ) → ℕ → Option (List ℕ)
meant_by None byte = if byte == 38 then Some [] else Some (byte ∷ [])
meant_by (Some name) byte = if byte == 59 then option_map encode_utf8 (referred name) else Some []

-- what bytes stand for behind what has come of a reference; nothing where one is none, or is left open
abbrev pub meant_behind : Option (List ℕ) → List ℕ → Option (List ℕ)
meant_behind None [] = Some []
meant_behind (Some name) [] = None
meant_behind came (byte ∷ bytes) = option_append (meant_by came byte) (meant_behind (name_after came byte) bytes)

-- the bytes with each reference replaced by its character; nothing where some `&` begins no reference
abbrev pub without_references : List ℕ → Option (List ℕ)
without_references = meant_behind None
