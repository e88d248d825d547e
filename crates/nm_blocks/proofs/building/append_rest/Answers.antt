use Rattle.std.proofs.Common.{ap}
use Rattle.nm_blocks.proofs.Pushed.{pushed_items}
use Rattle.nm_blocks.proofs.building.append_rest.Goals as goal

pub returns-clause-items : goal.returns-clause-items
returns-clause-items g c = pushed_items c.args.made.now.items c.push.new.self.items c.in_ok-new.field-0 c.args.items.items c.in_ok-push.ensures.items (ap (λ v. v.items) c.in_ok-new.ensures.ok)
