use Rattle.std.proofs.Common.{arith, ap}
use Rattle.nm_session.proofs.Gives.{gives_body}
use Rattle.nm_session.proofs.ahead.Ahead.next_spelling.Goals as goal

pub give-requires-clause-limit : goal.give-requires-clause-limit
give-requires-clause-limit g c = omega (arith, c.in_ok-read_ahead.ensures.ahead.given, c.room-room.ensures.limit)

pub returns-clause-spelling : goal.returns-clause-spelling
returns-clause-spelling g c = record {
  bytes = c.in_ok-body.body.items;
  body = gives_body _ c.read_ahead.new.self _ _ _ _ c.room-room.result _ c.in_ok-read_ahead.ensures.ahead
      (omega (arith, c.room-room.ensures.room)) c.room-room.ensures.limit c.in_ok-read_ahead.ensures.buffered c.in_ok-body.ensures
      (ap (λ h. h.ahead) c.give.ensures) (ap (λ h. h.given) c.give.ensures);
  spells = c.in_ok-spelling.ensures;
}
