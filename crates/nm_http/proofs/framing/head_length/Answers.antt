use Rattle.std.proofs.Common.{sym}
use Rattle.nm_http.proofs.Frames.{rest_at, sought_later}
use Rattle.nm_http.proofs.framing.head_length.Goals as goal

pub loop-place-preserved : goal.loop-place-preserved
loop-place-preserved c = sought_later c.args.bytes.now c.loop-place.place c.loop-place.invariant (rw (← rest_at c.args.bytes.now c.loop-place.place) (sym c.if-starts_with.ensures.value))
