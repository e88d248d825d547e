use Rattle.std.proofs.Common.{rules, arith}
use Rattle.nm_model.proofs.Ids.{all_ids}
use Rattle.nm_model.proofs.header.are_sound_ids.Goals as goal

pub returns-then-rise : goal.returns-then-rise
returns-then-rise c = rw (all_ids c.args.ids.now (λ k. omega (arith, c.type_inv.ids k))) (search rules)
