use Rattle.std.proofs.Common.{◌∙◌, sym, ap}
use Rattle.nm_day.specs.Day as spec
use Rattle.nm_day.proofs.Dates.{text_of-is_day}
use Rattle.nm_day.proofs.day.Day.text.Goals as goal

pub returns-clause-valid : goal.returns-clause-valid
returns-clause-valid c =
    ap spec.is_day (sym c.self.view_is) ∙ text_of-is_day c.self.inside.year c.self.inside.month c.self.inside.day c.self.invariant
