use Rattle.std.proofs.Common.{[], sym, subst}
use Rattle.nm_stage.specs.Live.{IsLive}
use Rattle.nm_stage.proofs.Beside.{listed_by, none_listed}
use Rattle.nm_stage.proofs.Lives.{empty-live}
use Rattle.nm_stage.proofs.live.Live.empty.Goals as goal

pub invariant_of-result : goal.invariant_of-result
invariant_of-result c =
    (subst IsLive (sym c.empty.ensures) empty-live, listed_by c.empty-2.result [] c.empty-3.result [] c.empty.result [] c.empty-2.ensures c.empty-3.ensures c.empty.ensures none_listed)
