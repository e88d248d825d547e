use Rattle.std.proofs.Common.{◌∙◌, ap, sym, refl, drop, Err}
use Rattle.nm_piece.specs.Start.{begins_standalone, standalone_of}
use Rattle.nm_piece.proofs.BetweenQuotes.{err_if, quoted_open}
use Rattle.nm_piece.proofs.declaration.yes_or_no.Goals as goal

pub returns-in-Err-Unfinished : goal.returns-in-Err-Unfinished
returns-in-Err-Unfinished c =
    rw (c.unfinished_if.ensures, c.begins_yes_or_no.ensures, c.behind_quote.ensures)
    (err_if (begins_standalone (drop 1 c.args.bytes.now)) ∙ sym (quoted_open standalone_of begins_standalone c.args.bytes.now refl (sym c.in-Err-Unfinished.ensures ∙ ap Err c.in-Err-Unfinished.field-0-is)))
