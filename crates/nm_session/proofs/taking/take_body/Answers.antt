use Rattle.std.proofs.Common.{sym, ◌∙◌}
use Rattle.nm_session.specs.PlainWord.{plain}
use Rattle.nm_session.proofs.Bodies.{takes_nothing, takes_spelling}
use Rattle.nm_session.proofs.taking.take_body.Goals as goal

pub returns-in_ok-spelling-in-Some-clause-body : goal.returns-in_ok-spelling-in-Some-clause-body
returns-in_ok-spelling-in-Some-clause-body g c =
    takes_spelling (plain c.args.word.now) _ _ _ _ c.in-Some.len c.in_ok-spelling-in-Some.spelling c.from.result (sym c.length.ensures ∙ c.in-Some.is) c.in_ok-spelling-in-Some.ensures.spelling c.from.ensures

pub returns-in-None-clause-body : goal.returns-in-None-clause-body
returns-in-None-clause-body g c =
    takes_nothing (plain c.args.word.now) _ _ (sym c.length.ensures ∙ c.in-None.is) c.requires.limit
