use Rattle.std.proofs.Common.{◌∙◌, ap, subst, sym}
use Rattle.nm_check.specs.Timelines.{base_of}
use Rattle.nm_check.proofs.Named.{base_is_of_timelines}
use Rattle.nm_statement.specs.Set.{IsRising}
use Rattle.nm_check.proofs.timelines.Timelines.base_is_in_order.Goals as goal

pub returns : goal.returns
returns c =
    let those = c.self.invariant.those in
    subst IsRising (sym (base_is_of_timelines c.self.invariant.base c.self.invariant.steps those.rising) ∙ ap base_of (sym those.timelines_are ∙ c.self.view_is)) those.rising
