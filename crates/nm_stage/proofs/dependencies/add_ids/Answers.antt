use Rattle.nm_stage.proofs.Missing.{has_more}
use Rattle.nm_stage.proofs.dependencies.add_ids.Goals as goal

pub loop-id-preserved : goal.loop-id-preserved
loop-id-preserved c known has =
    has_more c.loop-id.reached c.insert.new.self known c.args.ids.now c.loop-id.id-index c.loop-id-test.true c.in_ok-insert.ensures.keys (c.loop-id.invariant known has)
