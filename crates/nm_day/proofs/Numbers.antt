-- The day that has a number.
use Rattle.std.proofs.Common.{◌≡◌, ◌∙◌, ℕ, ℤ, List, true, pos, sym, subst}
use Rattle.jiff_core.proofs.DateLemmas.{epoch_day_injective, epoch_day_range}
use Rattle.jiff_core.specs.Calendar.{IsEpochDay}
use Rattle.jiff_core.specs.Date.{epoch_day}
use Rattle.jiff_core.specs.declared.civil.date.Date.{Date}
use Rattle.nm_day.proofs.Dates.{both_so}
use Rattle.nm_day.proofs.Orders.{date_of, epoch_day-date_of, is_day-facts}
use Rattle.nm_day.specs.Calendar.{is_civil, is_spelt, month_day_of, month_of, year_of}
use Rattle.nm_day.specs.Day.{is_day, number_of}

pub number_in_range : (text : List ℕ) (number : ℤ) → is_day text ≡ true → number_of text ≡ number → IsEpochDay number
number_in_range text number day is =
    let facts = is_day-facts text day in
    subst IsEpochDay (epoch_day-date_of text facts ∙ is) (epoch_day_range (date_of text facts))

-- a date and a day with one number have the same parts
pub record IsSame (date : Date) (text : List ℕ) : Type 0 where
  pub year : date.year ≡ pos (year_of text)
  pub month : date.month ≡ month_of text
  pub day : date.day ≡ month_day_of text

pub same_parts : (date : Date) (text : List ℕ) (number : ℤ) → epoch_day date ≡ number → is_day text ≡ true → number_of text ≡ number → IsSame date text
same_parts date text number dated day is =
    let facts = is_day-facts text day in
    let parts = epoch_day_injective date (date_of text facts) (dated ∙ sym is ∙ sym (epoch_day-date_of text facts)) in
    record { year = parts.0; month = parts.1; day = parts.2 }

pub civil_parts : (text : List ℕ) → is_day text ≡ true → is_civil (year_of text) (month_of text) (month_day_of text) ≡ true
unfolding is_day
civil_parts text day = (both_so (is_spelt text) (is_civil (year_of text) (month_of text) (month_day_of text)) day).1
