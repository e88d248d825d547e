use Rattle.std.proofs.Common.{ap, refl, ◌∙◌}
use Rattle.std.proofs.lemmas.Result.{err_from_is_err_and}
use Rattle.nm_session.specs.PlainWord.{plain}
use Rattle.nm_session.proofs.Commands.{bad_word, no_body, takes_command, takes_turn, same_line}
use Rattle.nm_session.proofs.taking.take_turn.Goals as goal

pub returns-in-Err-clause-why : goal.returns-in-Err-clause-why
returns-in-Err-clause-why g c =
    let line = same_line _ c.next_line.new.self _ _ _ _ c.deref.ensures.value c.in_ok-bytes.ensures.line in
    bad_word _ _ c.next_line.new.self _ _ c.deref.result.now _ c.offset-at.result line c.offset-at.ensures.given c.in-Err.ensures.bad.0 c.in-Err.ensures.bad.1

pub returns-in_err-body-clause-why : goal.returns-in_err-body-clause-why
returns-in_err-body-clause-why g c =
    let p = err_from_is_err_and c.from_residual-in_err-body.result c.from_residual-in_err-body.ensures.1 in
    let line = same_line _ c.next_line.new.self _ _ _ _ c.deref.ensures.value c.in_ok-bytes.ensures.line in
    rw (p.1, p.2) (no_body _ _ c.next_line.new.self _ _ c.deref.result.now (plain c.in-Ok.word) _ _ line c.in-Ok.ensures.word.3 refl c.in_err-body.ensures.why)

pub returns-clause-turn : goal.returns-clause-turn
returns-clause-turn g c =
    let line = same_line _ c.next_line.new.self _ _ _ _ c.deref.ensures.value c.in_ok-bytes.ensures.line in
    let taken = c.in_ok-body.ensures.body in
    let same = taken.same c.args.state.now in
    takes_turn c.args.state.now _ _ c.take_body.new.ahead _ _ (plain c.in-Ok.word) taken.bytes _ _
    (takes_command c.args.state.now _ c.next_line.new.self c.take_body.new.ahead _ _ _ c.deref.result.now taken.bytes (plain c.in-Ok.word) _ line c.in-Ok.ensures.word.3 refl taken.given)
    (c.in_ok-reply.ensures.ok.1 ∙ ap (λ t. t.state) same) (c.in_ok-reply.ensures.ok.0 ∙ ap (λ t. t.reply) same) c.is_end-is_last.ensures
