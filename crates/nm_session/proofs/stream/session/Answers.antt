use Rattle.std.proofs.Common.{refl, ◌∙◌}
use Rattle.nm_session.proofs.Sessions.{each, stands_first, stands_next, is_done, ends_interrupted, ended_cause, is_complete}
use Rattle.nm_session.proofs.stream.session.Goals as goal

pub turns-init : goal.turns-init
turns-init g c = record {
  stands = stands_first c.new-ahead.result (g.S.Source.left c.args.source.now) (g.K.Sink.written c.args.sink.now) c.new-ahead.ensures;
  reads_unfailed = refl;
  writes_unfailed = refl;
  source_beside = refl;
  sink_beside = refl;
}

pub turns-preserved : goal.turns-preserved
turns-preserved g c =
    let before = c.turns.invariant in
    let call = c.in-Ok-false.ensures in
    record {
      stands = each (g.S.Source.left c.args.source.now)
          (λ stream stands. stands_next stream c.turns.ahead c.turn.new.ahead _ _ c.turns.state _ _ _ _ c.in-Ok-false.field-0 c.in-Ok-false.field-0-test stands call.turn call.goes_on.more call.goes_on.limit)
          before.stands;
      reads_unfailed = call.unfailed.0 ∙ before.reads_unfailed;
      writes_unfailed = call.unfailed.1 ∙ before.writes_unfailed;
      source_beside = call.source_beside ∙ before.source_beside;
      sink_beside = call.sink_beside ∙ before.sink_beside;
    }

pub returns-in-Ok-true-clause-answers : goal.returns-in-Ok-true-clause-answers
returns-in-Ok-true-clause-answers g c =
    each (g.S.Source.left c.args.source.now)
    (λ stream stands. is_done stream c.turns.ahead c.turn.new.ahead _ _ c.turns.state _ _ _ _ c.in-Ok-true.field-0 c.in-Ok-true.field-0-test stands c.in-Ok-true.ensures.turn)
    c.turns.invariant.stands

pub returns-in-Ok-true-clause-complete : goal.returns-in-Ok-true-clause-complete
returns-in-Ok-true-clause-complete g c =
    each (g.S.Source.left c.args.source.now)
    (λ stream stands. is_complete stream _ _ _ _ _ _ _ (g.S.Source.left c.turn.new.source)
    (c.in-Ok-true.ensures.unfailed.0 ∙ c.turns.invariant.reads_unfailed, c.in-Ok-true.ensures.unfailed.1 ∙ c.turns.invariant.writes_unfailed)
    (is_done stream c.turns.ahead c.turn.new.ahead _ _ c.turns.state _ _ _ _ c.in-Ok-true.field-0 c.in-Ok-true.field-0-test stands c.in-Ok-true.ensures.turn))
    c.turns.invariant.stands

pub returns-in-Err-clause-answers : goal.returns-in-Err-clause-answers
returns-in-Err-clause-answers g c =
    each (g.S.Source.left c.args.source.now)
    (λ stream stands. ends_interrupted stream c.turns.ahead _ c.turns.state c.in-Err.interruption _ _ _ _ _ _ _ stands c.in-Err.ensures.why c.ended.ensures.ends)
    c.turns.invariant.stands

pub returns-in-Err-clause-complete : goal.returns-in-Err-clause-complete
returns-in-Err-clause-complete g c =
    let before = c.turns.invariant in
    let call = c.in-Err.ensures in
    each (g.S.Source.left c.args.source.now)
    (λ stream stands. is_complete stream _ _ _ _ _ _ _ (g.S.Source.left c.turn.new.source)
    (ended_cause c.in-Err.interruption c.ended.result _ _ (g.S.Source.faults c.args.source.now) (g.S.Source.faults c.turns.source) (g.S.Source.faults c.turn.new.source)
    (g.K.Sink.faults c.args.sink.now) (g.K.Sink.faults c.turns.sink) (g.K.Sink.faults c.turn.new.sink) (g.K.Sink.faults c.ended.new.sink) (g.S.Source.left c.turn.new.source)
    call.cause before.reads_unfailed before.writes_unfailed c.ended.ensures.ends)
    (ends_interrupted stream c.turns.ahead _ c.turns.state c.in-Err.interruption _ _ _ _ _ _ _ stands call.why c.ended.ensures.ends))
    before.stands

pub returns-in-Ok-true-clause-cause : goal.returns-in-Ok-true-clause-cause
returns-in-Ok-true-clause-cause g c =
    (c.in-Ok-true.ensures.unfailed.0 ∙ c.turns.invariant.reads_unfailed, c.in-Ok-true.ensures.unfailed.1 ∙ c.turns.invariant.writes_unfailed)

pub returns-in-Err-clause-cause : goal.returns-in-Err-clause-cause
returns-in-Err-clause-cause g c =
    let before = c.turns.invariant in
    ended_cause c.in-Err.interruption c.ended.result _ _ (g.S.Source.faults c.args.source.now) (g.S.Source.faults c.turns.source) (g.S.Source.faults c.turn.new.source)
    (g.K.Sink.faults c.args.sink.now) (g.K.Sink.faults c.turns.sink) (g.K.Sink.faults c.turn.new.sink) (g.K.Sink.faults c.ended.new.sink) (g.S.Source.left c.turn.new.source)
    c.in-Err.ensures.cause before.reads_unfailed before.writes_unfailed c.ended.ensures.ends
