use Rattle.std.proofs.Common.{arith}
use Rattle.nm_http.proofs.Frames.{counted_on, rest_at}
use Rattle.nm_http.proofs.framing.line_ends.Goals as goal

pub loop-place-preserved : goal.loop-place-preserved
loop-place-preserved c =
    let on = counted_on c.args.bytes.now c.loop-place.place c.loop-place.count c.loop-place.invariant.counted in
    record {
      counted = rw (c.line_end_in_front-count.ensures.count, rest_at c.args.bytes.now c.loop-place.place) on;
      within = omega (arith, c.line_end_in_front-count.ensures.within, c.loop-place.invariant.within);
    }
