use Rattle.std.proofs.Common.{◌≡◌, ◌∙◌, ℕ, ℤ, pos, w16, w64, FitsSigned, sym, ap, subst, arith}
use Rattle.std.proofs.lemmas.Int.{to_z-of_z}
use Rattle.jiff.specs.Words.{IsEpochDay}
use Rattle.jiff_core.proofs.SignedLemmas.{signed_arith}
use Rattle.jiff_core.specs.Calendar.{days_from_civil}
use Rattle.jiff_core.specs.declared.civil.date.Date.{Date}
use Rattle.std.proofs.Math.IntN.{nat_abs, negsuc}
use Rattle.std.specs.Int.{FitsUnsignedBits}
use Rattle.nm_day.proofs.Dates.{number_of-text_of, text_of-is_day, is_civil-facts}
use Rattle.nm_day.proofs.Numbers.{number_in_range, same_parts, civil_parts}
use Rattle.nm_day.specs.Calendar as calendar
use Rattle.nm_day.proofs.day.Day.of_number.Goals as goal

signed_year : (date : Date) → FitsSigned w16 date.year
signed_year date = omega (arith, signed_arith, date.year_in.0, date.year_in.1)

unsigned_is : (z : ℤ) (n : ℕ) → FitsUnsignedBits 16 z → n ≡ nat_abs z → pos n ≡ z
unsigned_is (pos m) n fits same = ap pos same
unsigned_is (negsuc m) n fits same = absurd fits

pub returns-in_default-clause-none : goal.returns-in_default-clause-none
returns-in_default-clause-none c none text day is =
    let same_number = to_z-of_z w64 c.args.number c.ranges.number in
    let range = subst IsEpochDay (sym same_number) (number_in_range text c.args.number day is) in
    let wrong = c.in_default.ensures.succeeds.1 range in
    cc

pub returns-in_default-try_from-clause-none : goal.returns-in_default-try_from-clause-none
returns-in_default-try_from-clause-none c none text day is =
    let same_number = to_z-of_z w64 c.args.number c.ranges.number in
    let same = same_parts c.in-Ok.date text c.args.number (c.in-Ok.ensures.value ∙ same_number) day is in
    let signed = to_z-of_z w16 c.in-Ok.date.year (signed_year c.in-Ok.date) in
    let facts = is_civil-facts (calendar.year_of text) (calendar.month_of text) (calendar.month_day_of text) (civil_parts text day) in
    let fits : FitsUnsignedBits 16 (pos (calendar.year_of text)) = omega (arith, facts.last) in
    c.in_default-try_from.ensures (subst (FitsUnsignedBits 16) (sym (signed ∙ same.year)) fits)

pub returns-then-not-is_civil-clause-none : goal.returns-then-not-is_civil-clause-none
returns-then-not-is_civil-clause-none c none text day is =
    let same_number = to_z-of_z w64 c.args.number c.ranges.number in
    let same = same_parts c.in-Ok.date text c.args.number (c.in-Ok.ensures.value ∙ same_number) day is in
    let signed = to_z-of_z w16 c.in-Ok.date.year (signed_year c.in-Ok.date) in
    let year : c.in-Ok-try_from.year ≡ calendar.year_of text = omega (arith, signed_arith, c.in-Ok-try_from.ensures.1, signed, same.year) in
    let civil = (λ i. calendar.is_civil (year i) (same.month i) (same.day i)) ∙ civil_parts text day in
    let wrong = sym civil ∙ sym c.is_civil.ensures ∙ c.if-not-is_civil.true in
    cc

pub returns-clause-day : goal.returns-clause-day
returns-clause-day c =
    let same_number = to_z-of_z w64 c.args.number c.ranges.number in
    let signed = to_z-of_z w16 c.in-Ok.date.year (signed_year c.in-Ok.date) in
    let year = unsigned_is _ c.in-Ok-try_from.year c.in-Ok-try_from.ensures.0 c.in-Ok-try_from.ensures.1 ∙ signed in
    number_of-text_of c.in-Ok-try_from.year c.in-Ok.date.month c.in-Ok.date.day
    ∙ (λ i. days_from_civil (year i) c.in-Ok.date.month c.in-Ok.date.day)
    ∙ c.in-Ok.ensures.value
    ∙ same_number

pub returns-clause-valid : goal.returns-clause-valid
returns-clause-valid c = text_of-is_day c.in-Ok-try_from.year c.in-Ok.date.month c.in-Ok.date.day (sym c.is_civil.ensures ∙ c.if-not-is_civil.false)
