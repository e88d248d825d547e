use Rattle.std.proofs.Common.{◌<◌, ◌+◌, take, sym, arith}
use Rattle.std.specs.Str.Parse.{digits_value}
use Rattle.nm_text.proofs.Numbers.{digits_more, too_high, value_more}
use Rattle.nm_text.proofs.reference.number_of.Goals as goal

pub returns-then-number-gt-LAST_CHARACTER : goal.returns-then-number-gt-LAST_CHARACTER
returns-then-number-gt-LAST_CHARACTER c =
    let value = value_more c.args.radix c.loop-digit.number c.in_ok-number.field-0 c.from.result c.args.digits.now c.loop-digit.digit-index
    (omega arith) c.loop-digit.invariant.value c.from.ensures c.in_ok-number.ensures.value.1 in
    let high : 0x10FFFF < digits_value c.args.radix (take (c.loop-digit.digit-index + 1) c.args.digits.now) = omega (arith, value) in
    sym (too_high c.args.radix c.args.digits.now (c.loop-digit.digit-index + 1) (omega arith) high)

pub loop-digit-preserved : goal.loop-digit-preserved
loop-digit-preserved c = record {
  digits = digits_more c.args.radix c.from.result c.args.digits.now c.loop-digit.digit-index (omega arith) c.loop-digit.invariant.digits c.from.ensures c.in_ok-number.ensures.value.0;
  value = value_more c.args.radix c.loop-digit.number c.in_ok-number.field-0 c.from.result c.args.digits.now c.loop-digit.digit-index
      (omega arith) c.loop-digit.invariant.value c.from.ensures c.in_ok-number.ensures.value.1;
  small = c.if-number-gt-LAST_CHARACTER.false;
}
