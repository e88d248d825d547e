-- The text of a date gives its parts back.
use Rattle.std.specs.Prelude.{◌≡◌, ℕ}
use Rattle.std.proofs.Common.{arith}
use Rattle.nm_day.specs.Calendar.{text_of, year_of, month_of, month_day_of}

pub year_of-text_of : (year month day : ℕ) → year_of (text_of year month day) ≡ year
year_of-text_of year month day = omega arith

pub month_of-text_of : (year month day : ℕ) → month_of (text_of year month day) ≡ month
month_of-text_of year month day = omega arith

pub month_day_of-text_of : (year month day : ℕ) → month_day_of (text_of year month day) ≡ day
month_day_of-text_of year month day = omega arith
