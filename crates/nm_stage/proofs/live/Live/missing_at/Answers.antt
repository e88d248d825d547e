use Rattle.std.proofs.Common.{◌∙◌, sym}
use Rattle.nm_stage.proofs.Needs.{missed_first, missed_later}
use Rattle.nm_stage.proofs.live.Live.missing_at.Goals as goal

pub returns-then-is_met : goal.returns-then-is_met
returns-then-is_met c = missed_later c.args.known.now c.args.self.now c.args.from.now c.in_ok-key.key c.in_ok-key.ensures (sym c.is_met.ensures ∙ c.if-is_met.true)

pub returns-else-is_met : goal.returns-else-is_met
returns-else-is_met c = missed_first c.args.known.now c.args.self.now c.args.from.now c.in_ok-key.key c.in_ok-key.ensures (sym c.is_met.ensures ∙ c.if-is_met.false)
