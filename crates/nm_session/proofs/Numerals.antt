-- Numbers that are read digit by digit.
use Rattle.std.proofs.Common.{◌≡◌, ◌∙◌, ℕ, ◌+◌, ◌-◌, ◌*◌, ◌<◌, ◌≤◌, List, take, length, get_or, Bool, true, false, ◌&&◌, nat_le, None, Some, arith, ap, refl, if◌then◌else◌}
use Rattle.std.proofs.lemmas.Bool.Decides.{nat_tests}
use Rattle.std.proofs.lemmas.Int.Digits.{digits_value_push}
use Rattle.std.proofs.lemmas.List.{take_more}
use Rattle.std.proofs.lemmas.List.Folds.{list_all_more}
use Rattle.std.proofs.lemmas.Str.Parse.{digits_value-take-le}
use Rattle.std.specs.Char.{digit_value, is_ascii_digit}
use Rattle.std.specs.List.{list_all}
use Rattle.std.specs.Str.Parse.{digits_value}
use Rattle.nm_session.specs.Digits.{number_within}

digit_is : (c : ℕ) → is_ascii_digit c ≡ true → digit_value c ≡ c - 48
digit_is c e = grind (arith, nat_tests)

-- the number of one digit more
pub value_more : (ds : List ℕ) (i : ℕ) → i < length ds → is_ascii_digit (get_or ds i 0) ≡ true → digits_value 10 (take (i + 1) ds) ≡ digits_value 10 (take i ds) * 10 + (get_or ds i 0 - 48)
value_more ds i within holds =
    ap (λ front. digits_value 10 front) (take_more ds i 0 within)
    ∙ digits_value_push 10 (take i ds) (get_or ds i 0)
    ∙ ap (λ digit. digits_value 10 (take i ds) * 10 + digit) (digit_is (get_or ds i 0) holds)

pub digits_more : (ds : List ℕ) (i : ℕ) → i < length ds → list_all is_ascii_digit (take i ds) ≡ true → is_ascii_digit (get_or ds i 0) ≡ true → list_all is_ascii_digit (take (i + 1) ds) ≡ true
digits_more ds i within front holds = list_all_more is_ascii_digit ds i 0 within ∙ (λ k. front k && holds k)

none_if : (fits : Bool) (value : ℕ) → fits ≡ false → None ≡ (if fits then Some value else None)
none_if fits value e = rw e refl

pub and_false : (a b : Bool) → b ≡ false → (a && b) ≡ false
and_false true b e = e
and_false false b e = refl

above : (n most : ℕ) → most < n → nat_le n most ≡ false
above n most h = grind (arith, nat_tests)

-- the digits so far are a number that is too large
pub passes : (most : ℕ) (ds : List ℕ) (i : ℕ) → most < digits_value 10 (take i ds) → None ≡ number_within most ds
passes most ds i past =
    let least : digits_value 10 (take i ds) ≤ digits_value 10 ds = digits_value-take-le 10 ds i (omega arith) in
    none_if (list_all is_ascii_digit ds && nat_le (digits_value 10 ds) most) (digits_value 10 ds)
    (and_false (list_all is_ascii_digit ds) (nat_le (digits_value 10 ds) most) (above (digits_value 10 ds) most (omega arith)))
