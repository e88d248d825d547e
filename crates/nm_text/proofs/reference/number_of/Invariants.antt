use Rattle.std.proofs.Common.{◌≡◌, ◌≤◌, true, take}
use Rattle.std.specs.Str.Parse.{digits_value}
use Rattle.nm_text.specs.Reference.{are_digits}
use Rattle.nm_text.proofs.reference.number_of.Given as goal

abbrev pub invariant-loop-digit : goal.invariant-loop-digit
invariant-loop-digit l = record {
  digits : are_digits l.radix (take l.digit-index l.digits) ≡ true;
  value : l.number ≡ digits_value l.radix (take l.digit-index l.digits);
  small : l.number ≤ 0x10FFFF;
}
