use Rattle.std.proofs.Common.{arith, ap, sym, ◌∙◌}
use Rattle.std.proofs.lemmas.Result.{err_from_is_err_and}
use Rattle.nm_session.proofs.Gives.{gives_line, no_line_feed, no_line_tells, no_line_within}
use Rattle.nm_session.proofs.ahead.Ahead.next_line.Goals as goal

pub returns-in_err-place-clause-why : goal.returns-in_err-place-clause-why
returns-in_err-place-clause-why g c =
    let p = err_from_is_err_and c.from_residual.result c.from_residual.ensures.1 in rw (p.1, p.2) (no_line_feed _ c.room-room.result _ _ c.room-room.ensures.room c.in_err-place.ensures.why)

pub returns-in_ok-line-in-Some-clause-line : goal.returns-in_ok-line-in-Some-clause-line
returns-in_ok-line-in-Some-clause-line g c =
    gives_line _ c.seek_line_end.new.self _ _ _ c.room-room.result c.in-Some.place _ c.in_ok-place.ensures.ahead
    (omega (arith, c.room-room.ensures.room)) c.room-room.ensures.limit (sym c.in_ok-place.ensures.place ∙ c.in-Some.is) c.in_ok-line-in-Some.ensures
    (ap (λ h. h.ahead) c.give.ensures) (ap (λ h. h.given) c.give.ensures)

pub returns-in-None-clause-why : goal.returns-in-None-clause-why
returns-in-None-clause-why g c =
    no_line_within _ _ c.seek_line_end.new.self _ _ c.room-room.result (record { long = c.no_line.ensures.long; full = c.no_line.ensures.full }) c.in_ok-place.ensures.ahead
    c.room-room.ensures.room (sym c.in_ok-place.ensures.place ∙ c.in-None.is) (c.in_ok-place.ensures.buffered c.in-None.is)

pub returns-in-None-clause-counted : goal.returns-in-None-clause-counted
returns-in-None-clause-counted g c = record {
  kept = c.in_ok-place.ensures.counted.kept;
  stays = tt;
  tells = no_line_tells c.no_line.result c.room-room.result _ _ _ _ (record { long = c.no_line.ensures.long; full = c.no_line.ensures.full }) c.in_ok-place.ensures.counted.stays;
}
