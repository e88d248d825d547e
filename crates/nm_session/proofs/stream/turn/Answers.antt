use Rattle.std.proofs.Common.{refl}
use Rattle.std.proofs.lemmas.Result.{err_from_is_err_and}
use Rattle.nm_session.proofs.Sessions.{breaks_reply}
use Rattle.nm_session.proofs.stream.turn.Goals as goal

pub returns-in_err-write_whole-clause-why : goal.returns-in_err-write_whole-clause-why
returns-in_err-write_whole-clause-why g c =
    let p = err_from_is_err_and c.from_residual-in_err-write_whole.result c.from_residual-in_err-write_whole.ensures.1 in
    rw (p.1, p.2) (breaks_reply _ _ _ c.take_turn.new.ahead _ _ c.in_ok-reply.reply c.as_slice.result.now c.in_ok-reply.is_last _ _ _
    c.in_ok-reply.ensures.turn c.as_slice.ensures refl c.in_err-write_whole.ensures.front)
