use Rattle.std.proofs.Common.{◌∙◌, ap, sym, refl, drop, Err}
use Rattle.nm_piece.specs.Start.{begins_encoding, encoding_of}
use Rattle.nm_piece.proofs.BetweenQuotes.{err_if, quoted_open}
use Rattle.nm_piece.proofs.declaration.encoding_name.Goals as goal

pub returns-in-Err-Unfinished : goal.returns-in-Err-Unfinished
returns-in-Err-Unfinished c =
    rw (c.unfinished_if.ensures, c.begins_encoding.ensures, c.behind_quote.ensures)
    (err_if (begins_encoding (drop 1 c.args.bytes.now)) ∙ sym (quoted_open encoding_of begins_encoding c.args.bytes.now refl (sym c.in-Err-Unfinished.ensures ∙ ap Err c.in-Err-Unfinished.field-0-is)))
