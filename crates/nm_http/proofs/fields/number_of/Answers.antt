use Rattle.std.proofs.Common.{◌≡◌, get_or, true, arith}
use Rattle.std.specs.Char.{is_ascii_digit}
use Rattle.std.proofs.lemmas.Grind.{pow_more}
use Rattle.nm_http.proofs.Digits.{digit_at, digit_small, short_power, value_more}
use Rattle.nm_http.proofs.fields.number_of.Goals as goal

pub overflow_mul-number : goal.overflow_mul-number
overflow_mul-number c =
    let power = short_power c.loop-digit.digit-index (omega arith) in
    omega (arith, power, c.loop-digit.invariant.within)

pub overflow_add-number : goal.overflow_add-number
overflow_add-number c =
    let ds = c.args.digits.now in
    let small = digit_small (get_or ds c.loop-digit.digit-index 0) (digit_at ds c.loop-digit.digit-index c.requires.all (omega arith)) in
    let power = short_power c.loop-digit.digit-index (omega arith) in
    omega (arith, power, small, c.loop-digit.invariant.within, c.from.ensures)

pub loop-digit-preserved : goal.loop-digit-preserved
loop-digit-preserved c =
    let ds = c.args.digits.now in
    let i = c.loop-digit.digit-index in
    let digit : is_ascii_digit (get_or ds i 0) ≡ true = digit_at ds i c.requires.all (omega arith) in
    let small = digit_small (get_or ds i 0) digit in
    let value = value_more ds i (omega arith) digit in
    record {
      number = omega (arith, value, c.loop-digit.invariant.number, c.from.ensures);
      within = omega (arith, small, pow_more 10 i, c.loop-digit.invariant.within, c.from.ensures);
    }
