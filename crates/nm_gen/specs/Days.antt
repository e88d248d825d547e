-- The days of projects.
use Rattle.std.specs.Prelude.{ℕ, zero, suc, ◌+◌, ◌-◌, nat_lt, pos, List, if◌then◌else◌}
use Rattle.jiff_core.specs.Calendar.{days_in_month, days_in_year}
use Rattle.nm_day.specs.Calendar.{text_of}
use Rattle.nm_gen.specs.Draws.{drawn}

-- the day so many days after the first of a month, which so many months of the year follow: whole months are counted off
abbrev pub day_of_months : ℕ → ℕ → ℕ → ℕ → List ℕ
day_of_months zero year month days = text_of year month (days + 1)
day_of_months (suc others) year month days =
    if nat_lt days (days_in_month (pos year) month) then text_of year month (days + 1)
    else day_of_months others year (month + 1) (days - days_in_month (pos year) month)

-- the day so many days after 1 January of a year, which so many years follow: whole years are counted off
abbrev pub day_of_years : ℕ → ℕ → ℕ → List ℕ
day_of_years zero year days = day_of_months 11 year 1 days
day_of_years (suc others) year days =
    if nat_lt days (days_in_year (pos year)) then day_of_months 11 year 1 days
    else day_of_years others (year + 1) (days - days_in_year (pos year))

-- how many days there are to draw: those of ten years, but for the last few
abbrev pub days_to_draw : ℕ
days_to_draw = 3650

-- the day so many days after 2027-01-01, within ten years
unfoldable pub day_after : ℕ → List ℕ
day_after days = day_of_years 9 2027 days

-- the day that is drawn where a draw leaves this state
abbrev pub drawn_day : ℕ → List ℕ
drawn_day state = day_after (drawn days_to_draw state)
