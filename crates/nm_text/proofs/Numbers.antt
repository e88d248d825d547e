-- Numbers that digits write, digit by digit.
use Rattle.std.proofs.Common.{◌≡◌, ◌∙◌, ℕ, ◌+◌, ◌*◌, ◌<◌, ◌≤◌, Bool, true, false, ◌&&◌, List, length, take, get_or, None, Some, refl, sym, ap, arith, nat_le, if◌then◌else◌}
use Rattle.std.specs.Char.{digit_value, is_digit}
use Rattle.std.specs.Str.Parse.{digits_value}
use Rattle.std.proofs.lemmas.Bool.{leb-true, lt-ltb}
use Rattle.std.proofs.lemmas.Int.Digits.{digits_value_more}
use Rattle.std.proofs.lemmas.List.Folds.{list_all_more}
use Rattle.std.proofs.lemmas.Str.Parse.{digits_value-take-le}
use Rattle.nm_text.specs.Reference.{are_digits, number_of}

-- a number that passes the last character on the way does so at the end
pub too_high : (radix : ℕ) (digits : List ℕ) (place : ℕ) → 1 ≤ radix → 0x10FFFF < digits_value radix (take place digits) → number_of radix digits ≡ None
too_high radix digits place some high =
    by (are_digits radix digits) (nat_le (digits_value radix digits) 0x10FFFF) refl
  where
    by : (a b : Bool) → nat_le (digits_value radix digits) 0x10FFFF ≡ b → (if a && b then Some (digits_value radix digits) else None) ≡ None
    by false b e = refl
    by true false e = refl
    by true true e = absurd (omega (arith, leb-true (digits_value radix digits) 0x10FFFF e, digits_value-take-le radix digits place some))

-- the number behind one digit more
pub value_more : (radix number digit byte : ℕ) (digits : List ℕ) (place : ℕ) → place < length digits → number ≡ digits_value radix (take place digits)
    → byte ≡ get_or digits place 0 → digit ≡ digit_value byte → number * radix + digit ≡ digits_value radix (take (place + 1) digits)
value_more radix number digit byte digits place within value is digit_is =
    rw (value, digit_is, is) (sym (digits_value_more radix digits place within))

-- and it is a digit
pub digits_more : (radix byte : ℕ) (digits : List ℕ) (place : ℕ) → place < length digits → are_digits radix (take place digits) ≡ true
    → byte ≡ get_or digits place 0 → digit_value byte < radix → are_digits radix (take (place + 1) digits) ≡ true
digits_more radix byte digits place within digits_so_far is below =
    let digit : is_digit (get_or digits place 0) radix ≡ true = ap (λ (byte : ℕ). is_digit byte radix) (sym is) ∙ lt-ltb (digit_value byte) radix below in
    list_all_more (λ (digit : ℕ). is_digit digit radix) digits place 0 within ∙ rw (digits_so_far, digit) refl
