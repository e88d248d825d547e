use Rattle.std.proofs.Common.{◌≡◌, ◌<◌, ◌^◌, take}
use Rattle.std.specs.Str.Parse.{digits_value}
use Rattle.nm_http.proofs.fields.number_of.Given as goal

-- the number of the digits so far, which is below a power of ten
abbrev pub invariant-loop-digit : goal.invariant-loop-digit
invariant-loop-digit l = record {
  number : l.number ≡ digits_value 10 (take l.digit-index l.digits);
  within : l.number < 10 ^ l.digit-index;
}
