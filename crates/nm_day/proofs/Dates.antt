-- Dates, their texts and their numbers.
use Rattle.std.proofs.Common.{◌≡◌, ◌∙◌, ℕ, ◌+◌, ◌-◌, ◌*◌, ◌/◌, ◌%◌, ◌<◌, ◌≤◌, List, [], ◌∷◌, ◌++◌, length, take, drop, Bool, true, false, ◌&&◌, ◌==◌, nat_le, pos, Ok, Err, refl, sym, ap, arith}
use Rattle.std.proofs.lemmas.Bool.Decides.{nat_tests}
use Rattle.std.specs.Char.{is_ascii_digit}
use Rattle.std.specs.List.{list_all}
use Rattle.std.specs.Prelude.{slice_index}
use Rattle.jiff_core.specs.Calendar.{days_from_civil, days_in_month}
use Rattle.jiff_core.proofs.CalendarLemmas.{days_in_month_bounds}
use Rattle.nm_terms.specs.Bytes.{is_between}
use Rattle.nm_day.specs.Calendar.{is_civil, is_spelt, text_of, year_of, month_of, month_day_of, two_digits}
use Rattle.nm_day.specs.Day.{day_of, is_day, number_of}
use Rattle.nm_day.specs.Fields.{year_of-text_of, month_of-text_of, month_day_of-text_of}

pub number_of-text_of : (year month day : ℕ) → number_of (text_of year month day) ≡ days_from_civil (pos year) month day
unfolding number_of
number_of-text_of year month day =
    λ i. days_from_civil (pos (year_of-text_of year month day i)) (month_of-text_of year month day i) (month_day_of-text_of year month day i)

pub both_so : (a b : Bool) → (a && b) ≡ true → (a ≡ true) × (b ≡ true)
both_so true true h = (refl, refl)
both_so true false h = cc
both_so false b h = cc

-- what each byte of a spelt text is
pub record IsSpelt (text : List ℕ) : Type 0 where
  pub size : length text ≡ 10
  pub year : list_all is_ascii_digit (take 4 text) ≡ true
  pub month : list_all is_ascii_digit (take 2 (drop 5 text)) ≡ true
  pub day : list_all is_ascii_digit (drop 8 text) ≡ true
  pub first_dash : slice_index text 4 ≡ 45
  pub second_dash : slice_index text 7 ≡ 45

pub is_spelt-facts : (text : List ℕ) → is_spelt text ≡ true → IsSpelt text
is_spelt-facts text h =
    let size = length text == 10 in
    let year = list_all is_ascii_digit (take 4 text) in
    let first_dash = slice_index text 4 == 45 in
    let month = list_all is_ascii_digit (take 2 (drop 5 text)) in
    let second_dash = slice_index text 7 == 45 in
    let a = both_so (size && year && first_dash && month && second_dash) (list_all is_ascii_digit (drop 8 text)) h in
    let b = both_so (size && year && first_dash && month) second_dash a.0 in
    let c = both_so (size && year && first_dash) month b.0 in
    let d = both_so (size && year) first_dash c.0 in
    let e = both_so size year d.0 in
    record {
      size = grind (arith, nat_tests, e.0);
      year = e.1;
      month = c.1;
      day = a.1;
      first_dash = grind (arith, nat_tests, d.1);
      second_dash = grind (arith, nat_tests, b.1);
    }

pub record IsDigit (byte : ℕ) : Type 0 where
  pub low : 48 ≤ byte
  pub high : byte ≤ 57

digit_facts : (byte : ℕ) → is_ascii_digit byte ≡ true → IsDigit byte
digit_facts byte h = record { low = grind (arith, nat_tests, h); high = grind (arith, nat_tests, h) }

pub record AreDigits (text : List ℕ) : Type 0 where
  pub d0 : IsDigit (slice_index text 0)
  pub d1 : IsDigit (slice_index text 1)
  pub d2 : IsDigit (slice_index text 2)
  pub d3 : IsDigit (slice_index text 3)
  pub d5 : IsDigit (slice_index text 5)
  pub d6 : IsDigit (slice_index text 6)
  pub d8 : IsDigit (slice_index text 8)
  pub d9 : IsDigit (slice_index text 9)
  pub again : text_of (year_of text) (month_of text) (month_day_of text) ≡ text

pair_again : (tens ones : ℕ) → IsDigit tens → IsDigit ones → two_digits (10 * (tens - 48) + (ones - 48)) ≡ tens ∷ ones ∷ []
pair_again tens ones t o =
    let first : 48 + (10 * (tens - 48) + (ones - 48)) / 10 ≡ tens = omega (arith, t.low, o.low, o.high) in
    let second : 48 + (10 * (tens - 48) + (ones - 48)) % 10 ≡ ones = omega (arith, t.low, o.low, o.high) in
    λ i. first i ∷ second i ∷ []

hundreds : (high low : ℕ) → low < 100 → ((100 * high + low) / 100 ≡ high) × ((100 * high + low) % 100 ≡ low)
hundreds high low h = (omega (arith, h), omega (arith, h))

all_four : (a b c d : ℕ) → list_all is_ascii_digit (a ∷ b ∷ c ∷ d ∷ []) ≡ true → IsDigit a × IsDigit b × IsDigit c × IsDigit d
all_four a b c d h =
    let x = both_so (is_ascii_digit a) (list_all is_ascii_digit (b ∷ c ∷ d ∷ [])) h in
    let y = both_so (is_ascii_digit b) (list_all is_ascii_digit (c ∷ d ∷ [])) x.1 in
    let z = both_so (is_ascii_digit c) (list_all is_ascii_digit (d ∷ [])) y.1 in
    let w = both_so (is_ascii_digit d) true z.1 in
    (digit_facts a x.0, digit_facts b y.0, digit_facts c z.0, digit_facts d w.0)

all_two : (a b : ℕ) → list_all is_ascii_digit (a ∷ b ∷ []) ≡ true → IsDigit a × IsDigit b
all_two a b h =
    let x = both_so (is_ascii_digit a) (list_all is_ascii_digit (b ∷ [])) h in
    let y = both_so (is_ascii_digit b) true x.1 in
    (digit_facts a x.0, digit_facts b y.0)

pub are_digits : (text : List ℕ) → IsSpelt text → AreDigits text
are_digits [] s = absurd (omega (arith, s.size))
are_digits (a ∷ []) s = absurd (omega (arith, s.size))
are_digits (a ∷ b ∷ []) s = absurd (omega (arith, s.size))
are_digits (a ∷ b ∷ c ∷ []) s = absurd (omega (arith, s.size))
are_digits (a ∷ b ∷ c ∷ d ∷ []) s = absurd (omega (arith, s.size))
are_digits (a ∷ b ∷ c ∷ d ∷ e ∷ []) s = absurd (omega (arith, s.size))
are_digits (a ∷ b ∷ c ∷ d ∷ e ∷ f ∷ []) s = absurd (omega (arith, s.size))
are_digits (a ∷ b ∷ c ∷ d ∷ e ∷ f ∷ g ∷ []) s = absurd (omega (arith, s.size))
are_digits (a ∷ b ∷ c ∷ d ∷ e ∷ f ∷ g ∷ h ∷ []) s = absurd (omega (arith, s.size))
are_digits (a ∷ b ∷ c ∷ d ∷ e ∷ f ∷ g ∷ h ∷ i ∷ []) s = absurd (omega (arith, s.size))
are_digits (a ∷ b ∷ c ∷ d ∷ e ∷ f ∷ g ∷ h ∷ i ∷ j ∷ k ∷ rest) s = absurd (omega (arith, s.size))
are_digits (a ∷ b ∷ c ∷ d ∷ e ∷ f ∷ g ∷ h ∷ i ∷ j ∷ []) s =
    let year = all_four a b c d s.year in
    let month = all_two f g s.month in
    let day = all_two i j s.day in
    let ones : 10 * (c - 48) + (d - 48) < 100 = omega (arith, year.2.low, year.2.high, year.3.low, year.3.high) in
    let split = hundreds (10 * (a - 48) + (b - 48)) (10 * (c - 48) + (d - 48)) ones in
    let first : two_digits ((100 * (10 * (a - 48) + (b - 48)) + (10 * (c - 48) + (d - 48))) / 100) ≡ a ∷ b ∷ [] = ap two_digits split.0 ∙ pair_again a b year.0 year.1 in
    let second : two_digits ((100 * (10 * (a - 48) + (b - 48)) + (10 * (c - 48) + (d - 48))) % 100) ≡ c ∷ d ∷ [] = ap two_digits split.1 ∙ pair_again c d year.2 year.3 in
    let third = pair_again f g month.0 month.1 in
    let fourth = pair_again i j day.0 day.1 in
    let e_is : e ≡ 45 = s.first_dash in
    let h_is : h ≡ 45 = s.second_dash in
    record {
      d0 = year.0;
      d1 = year.1;
      d2 = year.2;
      d3 = year.3;
      d5 = month.0;
      d6 = month.1;
      d8 = day.0;
      d9 = day.1;
      again = λ n. first n ++ second n ++ sym e_is n ∷ third n ++ sym h_is n ∷ fourth n;
    }

pub record IsCivil (year month day : ℕ) : Type 0 where
  pub first : 1900 ≤ year
  pub last : year ≤ 2999
  pub month_low : 1 ≤ month
  pub month_high : month ≤ 12
  pub day_low : 1 ≤ day
  pub day_in_month : day ≤ days_in_month (pos year) month
  pub day_high : day ≤ 31

between : (low high n : ℕ) → is_between low high n ≡ true → (low ≤ n) × (n ≤ high)
between low high n h =
    let parts = both_so (nat_le low n) (nat_le n high) h in
    (grind (arith, nat_tests, parts.0), grind (arith, nat_tests, parts.1))

pub is_civil-facts : (year month day : ℕ) → is_civil year month day ≡ true → IsCivil year month day
is_civil-facts year month day h =
    let in_years = is_between 1900 2999 year in
    let in_months = is_between 1 12 month in
    let front = both_so (in_years && in_months) (is_between 1 (days_in_month (pos year) month) day) h in
    let years = both_so in_years in_months front.0 in
    let y = between 1900 2999 year years.0 in
    let m = between 1 12 month years.1 in
    let d = between 1 (days_in_month (pos year) month) day front.1 in
    let most = days_in_month_bounds (pos year) month in
    record {
      first = y.0;
      last = y.1;
      month_low = m.0;
      month_high = m.1;
      day_low = d.0;
      day_in_month = d.1;
      day_high = omega (arith, d.1, most);
    }

digit_so : (n : ℕ) → n < 10 → is_ascii_digit (48 + n) ≡ true
digit_so n h = grind (arith, nat_tests)

tens_so : (n : ℕ) → n < 100 → is_ascii_digit (48 + n / 10) ≡ true
tens_so n h = digit_so (n / 10) (omega arith)

ones_so : (n : ℕ) → is_ascii_digit (48 + n % 10) ≡ true
ones_so n = digit_so (n % 10) (omega arith)

pub text_of-is_spelt : (year month day : ℕ) → year < 10000 → month < 100 → day < 100 → is_spelt (text_of year month day) ≡ true
text_of-is_spelt year month day y m d =
    let century : year / 100 < 100 = omega arith in
    let rest : year % 100 < 100 = omega arith in
    λ i. (tens_so (year / 100) century i && (ones_so (year / 100) i && (tens_so (year % 100) rest i && (ones_so (year % 100) i && true)))) && true
    && (tens_so month m i && (ones_so month i && true)) && true
    && (tens_so day d i && (ones_so day i && true))

pub text_of-is_day : (year month day : ℕ) → is_civil year month day ≡ true → is_day (text_of year month day) ≡ true
unfolding is_day
text_of-is_day year month day h =
    let facts = is_civil-facts year month day h in
    let spelt = text_of-is_spelt year month day (omega (arith, facts.last)) (omega (arith, facts.month_high)) (omega (arith, facts.day_high)) in
    (λ i. spelt i && is_civil (year_of-text_of year month day i) (month_of-text_of year month day i) (month_day_of-text_of year month day i)) ∙ h

-- what is read of a text that is spelt so
pub read_text : (text : List ℕ) → is_spelt text ≡ true → is_civil (year_of text) (month_of text) (month_day_of text) ≡ true → is_day text ≡ true
unfolding is_day
read_text text spelt civil = λ i. spelt i && civil i

pub unspelt_text : (text : List ℕ) → is_spelt text ≡ false → is_day text ≡ false
unfolding is_day
unspelt_text text spelt = λ i. spelt i && is_civil (year_of text) (month_of text) (month_day_of text)

pub uncivil_text : (text : List ℕ) → is_spelt text ≡ true → is_civil (year_of text) (month_of text) (month_day_of text) ≡ false → is_day text ≡ false
unfolding is_day
uncivil_text text spelt civil = λ i. spelt i && civil i

pub day_of-some : (text : List ℕ) → is_day text ≡ true → day_of text ≡ Ok text
day_of-some text h = rw h refl

pub day_of-none : (text : List ℕ) → is_day text ≡ false → day_of text ≡ Err (record {})
day_of-none text h = rw h refl

pub digit_so_of : (byte : ℕ) → IsDigit byte → is_ascii_digit byte ≡ true
digit_so_of byte d = grind (arith, nat_tests, d.low, d.high)
