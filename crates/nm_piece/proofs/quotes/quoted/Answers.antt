use Rattle.std.proofs.Common.{◌∙◌, sym, subst}
use Rattle.std.proofs.lemmas.Result.{err_from_is_err_and}
use Rattle.nm_text.specs.Split.{IsSplitBefore}
use Rattle.nm_piece.proofs.BetweenQuotes.{quoted_between, quoted_unclosed}
use Rattle.nm_piece.proofs.quotes.quoted.Goals as goal

pub returns-in_err-rest : goal.returns-in_err-rest
returns-in_err-rest c =
    let p = err_from_is_err_and c.from_residual-in_err-rest.result c.from_residual-in_err-rest.ensures.1 in
    let split = subst (IsSplitBefore c.in_ok-quote.quote c.in_ok-quote.behind.now c.split_before.result.0.now) c.in_err-rest.ensures.0 c.split_before.ensures in
    rw (p.1, p.2, c.in_err-rest.ensures.1, c.in_ok-quote.ensures)
    (sym (quoted_unclosed c.in_ok-quote.quote c.in_ok-quote.behind.now c.split_before.result.0.now (sym c.is_quote.ensures ∙ c.if-not-is_quote.false) split))

pub returns : goal.returns
returns c =
    let split = subst (IsSplitBefore c.in_ok-quote.quote c.in_ok-quote.behind.now c.split_before.result.0.now) c.in_ok-rest.ensures c.split_before.ensures in
    rw c.in_ok-quote.ensures
    (sym (quoted_between c.in_ok-quote.quote c.in_ok-rest.field-0-0 c.in_ok-quote.behind.now c.split_before.result.0.now c.in_ok-rest.rest.now (sym c.is_quote.ensures ∙ c.if-not-is_quote.false) split))
