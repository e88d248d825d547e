-- Days: the texts of the dates from 1900-01-01 to 2999-12-31, in the order of their numbers.
use Rattle.std.specs.Prelude.{ℕ, ℤ, pos, List, Bool, ◌&&◌, Result, Ok, Err, if◌then◌else◌}
use Rattle.std.specs.Ordering.{int_cmp, int_eq}
use Rattle.std.specs.declared.cmp.Ordering.{Ordering}
use Rattle.jiff_core.specs.Calendar.{days_from_civil}
use Rattle.nm_day.specs.Calendar.{is_civil, is_spelt, year_of, month_of, month_day_of}
use Rattle.nm_day.specs.declared.error.NotADay.{NotADay}

-- ten bytes `YYYY-MM-DD` that are a date of the calendar, from 1900-01-01 to 2999-12-31
unfoldable pub is_day : List ℕ → Bool
is_day text = is_spelt text && is_civil (year_of text) (month_of text) (month_day_of text)

-- the days since 1970-01-01
unfoldable pub number_of : List ℕ → ℤ
number_of text = days_from_civil (pos (year_of text)) (month_of text) (month_day_of text)

-- days stand in the order of their numbers
abbrev pub day_cmp : List ℕ → List ℕ → Ordering
day_cmp x y = int_cmp (number_of x) (number_of y)

abbrev pub is_same_day : List ℕ → List ℕ → Bool
is_same_day x y = int_eq (number_of x) (number_of y)

-- a day is its text
abbrev pub day_of : List ℕ → Result (List ℕ) NotADay
day_of text = if is_day text then Ok text else Err (record {})
