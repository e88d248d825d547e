use Rattle.std.proofs.Common.{◌∙◌, ap}
use Rattle.std.specs.Ordering.{is_lt}
use Rattle.nm_day.specs.Key.{key_cmp}
use Rattle.nm_day.specs.declared.key.Key.{Key}
use Rattle.nm_stage.proofs.Needs.{held_before, holds_before}
use Rattle.nm_stage.proofs.live.Live.is_held_before.Goals as goal

pub returns-in-Some : goal.returns-in-Some
returns-in-Some c =
    c.is_lt.ensures
    ∙ ap is_lt c.cmp.ensures
    ∙ ap (λ (key : Key). is_lt (key_cmp key c.args.key.now)) c.key.ensures
    ∙ ap (holds_before c.args.key.now) c.in-Some.ensures.found
    ∙ held_before c.args.key.now c.args.id c.args.self.now c.holder_of.ensures.live

pub returns-in-None : goal.returns-in-None
returns-in-None c = ap (holds_before c.args.key.now) c.in-None.ensures.found ∙ held_before c.args.key.now c.args.id c.args.self.now c.holder_of.ensures.live
