use Rattle.std.proofs.Common.{◌∙◌, ap, append-nil}
use Rattle.nm_blocks.proofs.Pushed.{pushed_items}
use Rattle.nm_blocks.proofs.building.settled.Goals as goal

pub returns-clause-items : goal.returns-clause-items
returns-clause-items g c =
    rw c.in_ok-with_capacity.ensures.items (append-nil _ ∙ pushed_items c.args.made.now.items c.push.new.self.items c.in_ok-new.field-0 c.args.block.items c.in_ok-push.ensures.items (ap (λ v. v.items) c.in_ok-new.ensures.ok))
