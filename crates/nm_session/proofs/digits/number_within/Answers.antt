use Rattle.std.proofs.Common.{◌≡◌, ◌∙◌, ◌+◌, ◌-◌, ◌*◌, take, get_or, true, sym, arith}
use Rattle.std.specs.Char.{is_ascii_digit}
use Rattle.std.specs.Str.Parse.{digits_value}
use Rattle.nm_session.proofs.Numerals.{value_more, digits_more, passes}
use Rattle.nm_session.proofs.digits.number_within.Goals as goal

pub returns-then-number-most : goal.returns-then-number-most
returns-then-number-most c =
    let ds = c.args.digits.now in
    let i = c.loop-digit.digit-index in
    let digit : is_ascii_digit (get_or ds i 0) ≡ true = sym c.is_ascii_digit.ensures.value ∙ c.if-not-is_ascii_digit.false in
    let value : digits_value 10 (take (i + 1) ds) ≡ digits_value 10 (take i ds) * 10 + (get_or ds i 0 - 48) = value_more ds i (omega arith) digit in
    passes c.args.most ds (i + 1) (omega (arith, value, c.loop-digit.invariant.number, c.from.ensures))

pub loop-digit-preserved : goal.loop-digit-preserved
loop-digit-preserved c =
    let ds = c.args.digits.now in
    let i = c.loop-digit.digit-index in
    let digit : is_ascii_digit (get_or ds i 0) ≡ true = sym c.is_ascii_digit.ensures.value ∙ c.if-not-is_ascii_digit.false in
    let value : digits_value 10 (take (i + 1) ds) ≡ digits_value 10 (take i ds) * 10 + (get_or ds i 0 - 48) = value_more ds i (omega arith) digit in
    record {
      digits = digits_more ds i (omega arith) c.loop-digit.invariant.digits digit;
      number = omega (arith, value, c.loop-digit.invariant.number, c.from.ensures);
      within = c.if-number-most.false;
    }
