-- The day that is counted off has the number that it should.
use Rattle.std.proofs.Common.{◌≡◌, ◌∙◌, ℕ, zero, suc, ◌+◌, ◌-◌, ◌*◌, ◌<◌, ◌≤◌, List, Bool, true, false, ◌&&◌, nat_lt, pos, refl, sym, ap, subst, arith, if◌then◌else◌}
use Rattle.std.proofs.lemmas.Bool.{le-leb, ltb-false, ltb-true}
use Rattle.jiff_core.proofs.CalendarLemmas.{day_count-day, day_count-last_of_year, day_count-next_month, day_count-next_year, days_from_civil-day_count, days_in_year_bounds}
use Rattle.jiff_core.proofs.MarchLemmas.{day_count-early}
use Rattle.jiff_core.proofs.SignedLemmas.{signed_arith}
use Rattle.jiff_core.specs.Calendar.{day_count, days_from_civil, days_in_month, days_in_year}
use Rattle.nm_day.proofs.Dates.{number_of-text_of, text_of-is_day}
use Rattle.nm_day.specs.Calendar.{is_civil, text_of}
use Rattle.nm_day.specs.Day.{is_day, number_of}
use Rattle.nm_gen.specs.Days.{day_after, day_of_months, day_of_years, days_to_draw}

-- the text is that of a date with this count of days
record IsDated (count : ℕ) (text : List ℕ) : Type 0 where
  pub year : ℕ
  pub month : ℕ
  pub day : ℕ
  pub civil : is_civil year month day ≡ true
  pub spelt : text_of year month day ≡ text
  pub counted : day_count (pos year) month day ≡ count

civil_so : (year month day : ℕ) → 1900 ≤ year → year ≤ 2999 → 1 ≤ month → month ≤ 12 → 1 ≤ day → day ≤ days_in_month (pos year) month → is_civil year month day ≡ true
civil_so year month day a b c d e f =
    λ i. (le-leb 1900 year a i && le-leb year 2999 b i) && (le-leb 1 month c i && le-leb month 12 d i)
    && (le-leb 1 day e i && le-leb day (days_in_month (pos year) month) f i)

-- a day of the month
in_month : (year month days : ℕ) → 1900 ≤ year → year ≤ 2999 → 1 ≤ month → month ≤ 12 → days < days_in_month (pos year) month → IsDated (day_count (pos year) month 1 + days) (text_of year month (days + 1))
in_month year month days first last low high inside = record {
  year = year;
  month = month;
  day = days + 1;
  civil = civil_so year month (days + 1) first last low high (omega arith) (omega arith);
  spelt = refl;
  counted = (let same = day_count-day (pos year) month 1 (days + 1) (omega arith) (omega arith) in omega arith);
}

months : (others year month days : ℕ) → 1900 ≤ year → year ≤ 2999 → 1 ≤ month → month + others ≡ 12
    → day_count (pos year) month 1 + days < day_count (pos year) 1 1 + days_in_year (pos year)
    → IsDated (day_count (pos year) month 1 + days) (day_of_months others year month days)
months zero year month days first last low sum within = in_month year month days first last low (omega arith) inside
  where
    december : month ≡ 12
    december = omega arith

    long : days_in_month (pos year) month ≡ 31
    long = ap (days_in_month (pos year)) december

    inside : days < days_in_month (pos year) month
    inside =
        let end = day_count-last_of_year (pos year) in
        let start : day_count (pos year) month 1 ≡ day_count (pos year) 12 1 = ap (λ m. day_count (pos year) m 1) december in
        let whole = day_count-day (pos year) 12 1 31 (omega arith) (omega arith) in
        omega (arith, long, within)
months (suc others) year month days first last low sum within =
    by (months others year (month + 1) (days - days_in_month (pos year) month) first last (omega arith) (omega arith)) (nat_lt days (days_in_month (pos year) month)) refl
  where
    next : day_count (pos year) (month + 1) 1 ≡ day_count (pos year) month 1 + days_in_month (pos year) month
    next = day_count-next_month (pos year) month low

    by : (day_count (pos year) (month + 1) 1 + (days - days_in_month (pos year) month) < day_count (pos year) 1 1 + days_in_year (pos year)
        → IsDated (day_count (pos year) (month + 1) 1 + (days - days_in_month (pos year) month)) (day_of_months others year (month + 1) (days - days_in_month (pos year) month)))
        → (inside : Bool) → nat_lt days (days_in_month (pos year) month) ≡ inside
        → IsDated (day_count (pos year) month 1 + days) (if inside then text_of year month (days + 1) else day_of_months others year (month + 1) (days - days_in_month (pos year) month))
    by behind true is = in_month year month days first last low (omega arith) (ltb-true days (days_in_month (pos year) month) is)
    by behind false is =
        let enough = ltb-false days (days_in_month (pos year) month) is in
        let same : day_count (pos year) (month + 1) 1 + (days - days_in_month (pos year) month) ≡ day_count (pos year) month 1 + days = omega (arith, next, enough) in
        subst (λ count. IsDated count (day_of_months others year (month + 1) (days - days_in_month (pos year) month))) same (behind (omega (arith, same, within)))

years : (others year days : ℕ) → 1900 ≤ year → year + others ≤ 2999 → days < 365 * (others + 1) → IsDated (day_count (pos year) 1 1 + days) (day_of_years others year days)
years zero year days first last within =
    let long = days_in_year_bounds (pos year) in
    months 11 year 1 days first (omega arith) (omega arith) refl (omega (arith, long.1))
years (suc others) year days first last within =
    by (years others (year + 1) (days - days_in_year (pos year)) (omega arith) (omega arith)) (nat_lt days (days_in_year (pos year))) refl
  where
    long : 365 ≤ days_in_year (pos year)
    long = (days_in_year_bounds (pos year)).1

    next : day_count (pos (year + 1)) 1 1 ≡ day_count (pos year) 1 1 + days_in_year (pos year)
    next = day_count-next_year (pos year) (pos (year + 1)) (omega (arith, signed_arith)) (omega (arith, signed_arith))

    by : (days - days_in_year (pos year) < 365 * (others + 1) → IsDated (day_count (pos (year + 1)) 1 1 + (days - days_in_year (pos year))) (day_of_years others (year + 1) (days - days_in_year (pos year))))
        → (inside : Bool) → nat_lt days (days_in_year (pos year)) ≡ inside
        → IsDated (day_count (pos year) 1 1 + days) (if inside then day_of_months 11 year 1 days else day_of_years others (year + 1) (days - days_in_year (pos year)))
    by behind true is =
        let inside = ltb-true days (days_in_year (pos year)) is in
        months 11 year 1 days first (omega arith) (omega arith) refl (omega (arith, inside))
    by behind false is =
        let enough = ltb-false days (days_in_year (pos year)) is in
        let same : day_count (pos (year + 1)) 1 1 + (days - days_in_year (pos year)) ≡ day_count (pos year) 1 1 + days = omega (arith, next, enough) in
        subst (λ count. IsDated count (day_of_years others (year + 1) (days - days_in_year (pos year)))) same (behind (omega (arith, long, within, enough)))

first_count : day_count (pos 2027) 1 1 ≡ 4392772
first_count = day_count-early (pos 2027) 12026 1 1 refl (omega arith) (omega arith) (omega arith)

-- what a day so many days after 2027-01-01 is
pub record IsAfter (days : ℕ) : Type 0 where
  pub is : is_day (day_after days) ≡ true
  pub number : number_of (day_after days) ≡ pos (20819 + days)

pub day_is_after : (days : ℕ) → days < days_to_draw → IsAfter days
unfolding day_after
day_is_after days within =
    let dated = years 9 2027 days (omega arith) (omega arith) (omega arith) in
    let told = days_from_civil-day_count (pos dated.year) dated.month dated.day in
    let number : days_from_civil (pos dated.year) dated.month dated.day ≡ pos (20819 + days) = omega (arith, signed_arith, told, dated.counted, first_count) in
    record {
      is = ap is_day (sym dated.spelt) ∙ text_of-is_day dated.year dated.month dated.day dated.civil;
      number = ap number_of (sym dated.spelt) ∙ number_of-text_of dated.year dated.month dated.day ∙ number;
    }
