use Rattle.std.proofs.Common.{arith}
use Rattle.nm_publish.specs.Reader.{starting}
use Rattle.nm_publish.proofs.Beginning.{one_more, one_part_less}
use Rattle.nm_publish.proofs.opening.readers.Goals as goal

pub loop-gate-preserved : goal.loop-gate-preserved
loop-gate-preserved g c =
    let before = c.loop-gate.invariant in
    let more =
    one_more (starting g.H.Site.opening) c.loop-gate.readers.items c.push.new.self.items c.in_ok-reader.reader c.loop-gate.yielded c.in-Some.gate before.0 before.3 c.in_ok-reader.ensures
    c.in_ok-push.ensures.items in (
      more.0,
      one_part_less c.split_off-share.new.self.parts c.loop-gate.shares.parts _ c.loop-gate.yielded c.in-Some.gate c.split_off-share.ensures.parts_left before.1,
      omega (arith, c.split_off-share.ensures.amount_left, before.2),
      more.1,
    )
