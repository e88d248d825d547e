use Rattle.nm_text.proofs.EndsOfLines.{less_is_left, no_end_is_left, one_end_more}
use Rattle.nm_text.proofs.lines.append_lines.Goals as goal

pub returns-in_default : goal.returns-in_default
returns-in_default c =
    rw c.in_ok-extend_from_slice.ensures.items
    (no_end_is_left c.loop-behind.out.items c.loop-behind.rest.now c.split_before.result.0.now c.split_before.result.1.now _
    c.split_before.ensures c.in_default.ensures.cases c.loop-behind.invariant)

pub loop-behind-smaller : goal.loop-behind-smaller
loop-behind-smaller c =
    less_is_left c.loop-behind.rest.now c.split_before.result.0.now c.split_before.result.1.now c.in-Some.behind.now c.behind_line_feed-rest.result.now
    c.in-Some.field-0-0.now c.split_before.ensures c.in-Some.ensures.cases.0 c.behind_line_feed-rest.ensures.shorter

pub loop-behind-preserved : goal.loop-behind-preserved
loop-behind-preserved c =
    rw (c.in_ok-push.ensures.items, c.in_ok-extend_from_slice.ensures.items)
    (one_end_more c.loop-behind.out.items c.loop-behind.rest.now c.split_before.result.0.now c.split_before.result.1.now c.in-Some.behind.now
    c.behind_line_feed-rest.result.now _ c.in-Some.field-0-0.now
    c.split_before.ensures c.in-Some.ensures.cases.0 c.behind_line_feed-rest.ensures.read c.loop-behind.invariant)
