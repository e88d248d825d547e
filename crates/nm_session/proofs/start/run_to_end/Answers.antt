use Rattle.std.proofs.Common.{refl, ◌∙◌}
use Rattle.std.proofs.lemmas.Result.{err_from_is_err_and}
use Rattle.nm_session.proofs.Openings.{along_done, along_first, along_halted, along_next}
use Rattle.nm_session.proofs.Sessions.{each}
use Rattle.nm_session.proofs.start.run_to_end.Goals as goal

pub turns-init : goal.turns-init
turns-init g c = record {
  along = along_first c.args.ahead.now (g.S.Source.left c.args.source.now) c.args.state.now c.requires.new c.requires.empty;
  unfailed = refl;
  beside_stays = refl;
}

pub returns-in_err-is_last-clause-why : goal.returns-in_err-is_last-clause-why
returns-in_err-is_last-clause-why g c =
    let p = err_from_is_err_and c.from_residual.result c.from_residual.ensures.1 in
    rw (p.1, p.2) (each (g.S.Source.left c.args.source.now)
    (λ stream along. along_halted stream c.turns.ahead _ c.turns.state _ along c.in_err-is_last.ensures.why)
    c.turns.invariant.along)

pub returns-then-is_last-clause-done : goal.returns-then-is_last-clause-done
returns-then-is_last-clause-done g c =
    each (g.S.Source.left c.args.source.now)
    (λ stream along. along_done stream c.turns.ahead c.take_turn.new.ahead _ _ c.turns.state _ _ c.in_ok-is_last.is_last c.if-is_last.true along c.in_ok-is_last.ensures.turn)
    c.turns.invariant.along

pub turns-preserved : goal.turns-preserved
turns-preserved g c =
    let before = c.turns.invariant in
    let call = c.in_ok-is_last.ensures in
    record {
      along = each (g.S.Source.left c.args.source.now)
          (λ stream along. along_next stream c.turns.ahead c.take_turn.new.ahead _ _ c.turns.state _ _ c.in_ok-is_last.is_last c.if-is_last.false along call.turn call.goes_on.more call.goes_on.limit)
          before.along;
      unfailed = call.counted.stays ∙ before.unfailed;
      beside_stays = call.beside_stays ∙ before.beside_stays;
    }
