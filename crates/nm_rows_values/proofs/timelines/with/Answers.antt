use Rattle.nm_timeline.proofs.Places.{freed}
use Rattle.nm_rows_values.proofs.timelines.with.Goals as goal

pub put-requires : goal.put-requires
put-requires c = freed c.args.key c.args.mark c.args.timeline.now.entries
