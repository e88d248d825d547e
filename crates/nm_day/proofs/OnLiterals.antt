-- What a proof unfolds to compute days on literals.
use Rattle.std.specs.Prelude.{⊤}
use Rattle.jiff_core.specs.Calendar.{day_count, days_from_civil, days_of_months, days_of_years}
use Rattle.nm_day.specs.Day.{is_day, number_of}

unfoldable pub days_on_literals : ⊤
unfolding is_day number_of days_from_civil day_count days_of_months days_of_years
days_on_literals = tt
