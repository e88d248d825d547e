-- Numbers in decimal digits.
use Rattle.std.specs.Prelude.{ℕ, List, length, Bool, ◌&&◌, ◌||◌, ◌==◌, nat_le, nat_lt, slice_index, Option, None, Some, if◌then◌else◌}
use Rattle.std.specs.List.{list_all}
use Rattle.std.specs.Char.{is_ascii_digit}
use Rattle.std.specs.Str.Parse.{digits_value}

-- whether the text is digits of a number that is at most `most`
abbrev pub spells_within : ℕ → List ℕ → Bool
spells_within most text = list_all is_ascii_digit text && nat_le (digits_value 10 text) most

-- the number that digits spell, where it is at most `most`
abbrev pub number_within : ℕ → List ℕ → Option ℕ
number_within most text = if spells_within most text then Some (digits_value 10 text) else None

-- whether a digit stands behind a zero
abbrev pub has_leading_zero : List ℕ → Bool
has_leading_zero text = (slice_index text 0 == 48) && nat_lt 1 (length text)

-- the number, at most `most`, that digits without a leading zero spell
abbrev pub numeral_within : ℕ → List ℕ → Option ℕ
numeral_within most text = if (length text == 0) || has_leading_zero text then None else number_within most text
