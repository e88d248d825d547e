use Rattle.std.proofs.Common.{subst}
use Rattle.nm_check.specs.Kept.{AreTimelinesOf}
use Rattle.nm_stage.specs.Steps.{steps_of}
use Rattle.nm_version.specs.Kept.{Kept}
use Rattle.nm_version.proofs.Edited.{timelines_kept}
use Rattle.nm_version.proofs.version.Version.timelines.Goals as goal

pub returns : goal.returns
returns c =
    subst (λ (k : Kept). AreTimelinesOf k.base.statements (steps_of k.live) c.self.inside.timelines) c.self.view_is
    (timelines_kept _ c.self.inside.timelines c.self.invariant.reached c.self.invariant.timed c.self.invariant.rising)
