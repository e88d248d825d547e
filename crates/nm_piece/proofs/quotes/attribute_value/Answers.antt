use Rattle.std.proofs.Common.{◌≡◌, ◌∙◌, ap, sym, refl, drop, true, is_some, Err, Option, List, ℕ}
use Rattle.nm_text.specs.Meaning.{attribute_value}
use Rattle.nm_piece.specs.Reading.{found}
use Rattle.nm_piece.specs.Value.{begins_value, value_of}
use Rattle.nm_piece.proofs.BetweenQuotes.{err_if, quoted_found, quoted_open}
use Rattle.nm_piece.proofs.Meant.{is_there, value_is}
use Rattle.nm_piece.proofs.quotes.attribute_value.Goals as goal

pub returns-in-Err-Unfinished : goal.returns-in-Err-Unfinished
unfolding begins_value
returns-in-Err-Unfinished c =
    rw (c.unfinished_if.ensures, c.begins_value.ensures, c.behind_quote.ensures)
    (err_if (begins_value (drop 1 c.args.bytes.now)) ∙ sym (quoted_open value_of begins_value c.args.bytes.now refl (sym c.in-Err-Unfinished.ensures ∙ ap Err c.in-Err-Unfinished.field-0-is)))

is_value_there : (c : goal.Then-is_value) → is_some (value_of c.in-Ok.spelling.now) ≡ true
is_value_there c = sym c.is_value.ensures ∙ c.if-is_value.true

is_meant : (c : goal.Then-is_value) → is_some (attribute_value c.in-Ok.spelling.now) ≡ true
is_meant c = ap is_some (sym (value_is c.in-Ok.spelling.now (is_value_there c))) ∙ is_value_there c

pub invariant_of-result : goal.invariant_of-result
invariant_of-result c = is_meant c

pub returns-in-Ok : goal.returns-in-Ok
returns-in-Ok c =
    sym (quoted_found value_of begins_value c.args.bytes.now c.in-Ok.spelling.now c.in-Ok.rest.now (sym c.in-Ok.ensures)
    ∙ ap (λ (o : Option (List ℕ)). found o c.in-Ok.rest.now) (value_is c.in-Ok.spelling.now (is_value_there c) ∙ is_there (attribute_value c.in-Ok.spelling.now) (is_meant c)))
