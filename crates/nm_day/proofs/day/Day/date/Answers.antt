use Rattle.std.proofs.Common.{◌≡◌, ◌∙◌, pos, w8, w16, sym, ap, arith}
use Rattle.jiff_core.specs.Calendar.{days_from_civil}
use Rattle.std.proofs.lemmas.Int.{to_z_pos}
use Rattle.nm_day.specs.Day as spec
use Rattle.nm_day.proofs.Dates.{number_of-text_of, text_of-is_day, is_civil-facts}
use Rattle.nm_day.proofs.day.Day.date.Goals as goal

pub returns-clause-number : goal.returns-clause-number
returns-clause-number c =
    let facts = is_civil-facts c.self.inside.year c.self.inside.month c.self.inside.day c.self.invariant in
    let year : c.date.result.year ≡ pos c.self.inside.year = c.date.ensures.0 ∙ to_z_pos w16 c.self.inside.year (omega (arith, facts.last)) in
    let months = c.date.ensures.1 ∙ to_z_pos w8 c.self.inside.month (omega (arith, facts.month_high)) in
    let days = c.date.ensures.2 ∙ to_z_pos w8 c.self.inside.day (omega (arith, facts.day_high)) in
    let month : c.date.result.month ≡ c.self.inside.month = cc months in
    let day : c.date.result.day ≡ c.self.inside.day = cc days in
    (λ i. days_from_civil (year i) (month i) (day i))
    ∙ sym (number_of-text_of c.self.inside.year c.self.inside.month c.self.inside.day)
    ∙ ap spec.number_of c.self.view_is

pub returns-clause-valid : goal.returns-clause-valid
returns-clause-valid c =
    ap spec.is_day (sym c.self.view_is) ∙ text_of-is_day c.self.inside.year c.self.inside.month c.self.inside.day c.self.invariant
