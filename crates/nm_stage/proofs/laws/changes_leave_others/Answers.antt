use Rattle.nm_stage.proofs.Filings.{with_leaves, without_leaves}
use Rattle.nm_stage.proofs.laws.changes_leave_others.Goals as goal

pub returns : goal.returns
returns c = record { with = λ project live l. with_leaves project live l.rising; without = without_leaves }
