use Rattle.std.proofs.Common.{◌≡◌, ◌∙◌, ◌*◌, ◌+◌, Ok, sym, ap, arith}
use Rattle.nm_day.specs.Calendar as calendar
use Rattle.nm_day.specs.Calendar.{year_of, text_of}
use Rattle.nm_day.proofs.Dates.{are_digits, digit_so_of, is_spelt-facts, read_text, unspelt_text, uncivil_text, day_of-some, day_of-none}
use Rattle.nm_day.proofs.day.Day.parse.Goals as goal

pub returns-then-not-is_spelt : goal.returns-then-not-is_spelt
returns-then-not-is_spelt c =
    sym (day_of-none c.args.text.now (unspelt_text c.args.text.now (sym c.is_spelt.ensures ∙ c.if-not-is_spelt.true)))

pub pair_at-requires-2-clause-other_digit : goal.pair_at-requires-2-clause-other_digit
pair_at-requires-2-clause-other_digit c =
    digit_so_of _ (are_digits c.args.text.now (is_spelt-facts c.args.text.now (sym c.is_spelt.ensures ∙ c.if-not-is_spelt.false))).d3

pub pair_at-day-requires-clause-digit : goal.pair_at-day-requires-clause-digit
pair_at-day-requires-clause-digit c =
    digit_so_of _ (are_digits c.args.text.now (is_spelt-facts c.args.text.now (sym c.is_spelt.ensures ∙ c.if-not-is_spelt.false))).d8

pub pair_at-day-requires-clause-other_digit : goal.pair_at-day-requires-clause-other_digit
pair_at-day-requires-clause-other_digit c =
    digit_so_of _ (are_digits c.args.text.now (is_spelt-facts c.args.text.now (sym c.is_spelt.ensures ∙ c.if-not-is_spelt.false))).d9

pub returns-then-not-is_civil : goal.returns-then-not-is_civil
returns-then-not-is_civil c =
    let year : c.from.result * 100 + c.from-2.result ≡ year_of c.args.text.now = omega (arith, c.from.ensures, c.from-2.ensures, c.pair_at.ensures.number, c.pair_at-2.ensures.number) in
    let civil = (λ i. calendar.is_civil (sym year i) (sym c.pair_at-month.ensures.number i) (sym c.pair_at-day.ensures.number i)) ∙ sym c.is_civil.ensures ∙ c.if-not-is_civil.true in
    sym (day_of-none c.args.text.now (uncivil_text c.args.text.now (sym c.is_spelt.ensures ∙ c.if-not-is_spelt.false) civil))

pub returns : goal.returns
returns c =
    let year : c.from.result * 100 + c.from-2.result ≡ year_of c.args.text.now = omega (arith, c.from.ensures, c.from-2.ensures, c.pair_at.ensures.number, c.pair_at-2.ensures.number) in
    let spelt = sym c.is_spelt.ensures ∙ c.if-not-is_spelt.false in
    let civil = (λ i. calendar.is_civil (sym year i) (sym c.pair_at-month.ensures.number i) (sym c.pair_at-day.ensures.number i)) ∙ sym c.is_civil.ensures ∙ c.if-not-is_civil.false in
    (λ i. Ok (text_of (year i) (c.pair_at-month.ensures.number i) (c.pair_at-day.ensures.number i)))
    ∙ ap Ok (are_digits c.args.text.now (is_spelt-facts c.args.text.now spelt)).again
    ∙ sym (day_of-some c.args.text.now (read_text c.args.text.now spelt civil))
