use Rattle.std.proofs.Common.{sym}
use Rattle.nm_piece.proofs.Scans.{here_at, step_at}
use Rattle.nm_piece.proofs.marked.split_at_mark.Goals as goal

pub returns-then-starts_with : goal.returns-then-starts_with
returns-then-starts_with c =
    rw (c.split_at-then-starts_with.ensures.back, c.split_at.ensures.front, c.split_at.ensures.back)
    (sym (here_at c.args.mark.now c.args.bytes.now c.loop-place.place c.loop-place-test.true (rw (← c.split_at.ensures.back) (sym c.if-starts_with.ensures.value)) c.loop-place.invariant))

pub loop-place-preserved : goal.loop-place-preserved
loop-place-preserved c =
    step_at c.args.mark.now c.args.bytes.now c.loop-place.place c.loop-place-test.true (rw (← c.split_at.ensures.back) (sym c.if-starts_with.ensures.value)) c.loop-place.invariant
