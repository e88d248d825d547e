-- Dates of the calendar that are kept, and how they are spelt (ISO 8601, calendar date, extended format).
use Rattle.std.specs.Prelude.{ℕ, ◌+◌, ◌-◌, ◌*◌, ◌/◌, ◌%◌, List, [], ◌∷◌, ◌++◌, length, take, drop, slice_index, Bool, ◌&&◌, ◌==◌, pos}
use Rattle.std.specs.Char.{is_ascii_digit}
use Rattle.std.specs.List.{list_all}
use Rattle.jiff.specs.Words.{days_in_month}
use Rattle.nm_terms.specs.Bytes.{is_between}

abbrev pub first_year : ℕ
first_year = 1900

abbrev pub last_year : ℕ
last_year = 2999

-- the calendar has this date, and its year is kept
abbrev pub is_civil : ℕ → ℕ → ℕ → Bool
is_civil year month day =
    is_between first_year last_year year && is_between 1 12 month
    && is_between 1 (days_in_month (pos year) month) day

-- a number below 100 in two digits
abbrev pub two_digits : ℕ → List ℕ
two_digits n = (48 + n / 10) ∷ (48 + n % 10) ∷ []

-- the text of a date, `YYYY-MM-DD`
abbrev pub text_of : ℕ → ℕ → ℕ → List ℕ
text_of year month day =
    two_digits (year / 100) ++ two_digits (year % 100) ++ 45 ∷ two_digits month ++ 45 ∷ two_digits day

-- digits, but for the two `-`
abbrev pub is_spelt : List ℕ → Bool
is_spelt text =
    (length text == 10)
    && list_all is_ascii_digit (take 4 text) && (slice_index text 4 == 45)
    && list_all is_ascii_digit (take 2 (drop 5 text)) && (slice_index text 7 == 45)
    && list_all is_ascii_digit (drop 8 text)

-- the number of the two digits at a place
abbrev pub pair_at : List ℕ → ℕ → ℕ
pair_at text place = 10 * (slice_index text place - 48) + (slice_index text (place + 1) - 48)

abbrev pub year_of : List ℕ → ℕ
year_of text = 100 * pair_at text 0 + pair_at text 2

abbrev pub month_of : List ℕ → ℕ
month_of text = pair_at text 5

abbrev pub month_day_of : List ℕ → ℕ
month_day_of text = pair_at text 8
