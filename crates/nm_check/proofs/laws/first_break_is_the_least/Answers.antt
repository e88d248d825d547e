use Rattle.nm_check.proofs.FirstBreak.{first_break_is_the_least}
use Rattle.nm_check.proofs.laws.first_break_is_the_least.Goals as goal

pub returns : goal.returns
returns c = first_break_is_the_least
