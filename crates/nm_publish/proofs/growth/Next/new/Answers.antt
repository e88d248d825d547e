use Rattle.std.proofs.Common.{rules}
use Rattle.std.specs.Arc.{arc_value}
use Rattle.nm_publish.proofs.Committing.{told_after}
use Rattle.nm_publish.proofs.growth.Next.new.Goals as goal

pub new-requires-2 : goal.new-requires-2
new-requires-2 c =
    told_after c.args.before.now c.again.result (arc_value c.in_ok-held.held) c.args.command.now.value c.front.ensures.told (search rules) (search rules)
