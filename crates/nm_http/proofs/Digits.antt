-- Numbers that are read digit by digit.
use Rattle.std.proofs.Common.{◌≡◌, ◌∙◌, ◌+◌, ◌-◌, ◌*◌, ◌<◌, ◌≤◌, ◌^◌, ℕ, List, take, length, get_or, true, arith, ap}
use Rattle.std.proofs.Math.Nat.{pow-le-pow_right}
use Rattle.std.proofs.lemmas.Bool.Decides.{nat_tests}
use Rattle.std.proofs.lemmas.Int.Digits.{digits_value_more}
use Rattle.std.proofs.lemmas.List.Sums.{AllPass-from_list_all}
use Rattle.std.specs.Char.{digit_value, is_ascii_digit}
use Rattle.std.specs.List.{list_all}
use Rattle.std.specs.Str.Parse.{digits_value}

digit_is : (c : ℕ) → is_ascii_digit c ≡ true → digit_value c ≡ c - 48
digit_is c e = grind (arith, nat_tests)

pub digit_small : (c : ℕ) → is_ascii_digit c ≡ true → c - 48 ≤ 9
digit_small c e = grind (arith, nat_tests)

pub digit_at : (ds : List ℕ) (i : ℕ) → list_all is_ascii_digit ds ≡ true → i < length ds → is_ascii_digit (get_or ds i 0) ≡ true
digit_at ds i all within = AllPass-from_list_all is_ascii_digit ds all i 0 within

-- the number of one digit more
pub value_more : (ds : List ℕ) (i : ℕ) → i < length ds → is_ascii_digit (get_or ds i 0) ≡ true → digits_value 10 (take (i + 1) ds) ≡ digits_value 10 (take i ds) * 10 + (get_or ds i 0 - 48)
value_more ds i within holds =
    digits_value_more 10 ds i within ∙ ap (λ digit. digits_value 10 (take i ds) * 10 + digit) (digit_is (get_or ds i 0) holds)

pub short_power : (i : ℕ) → i ≤ 18 → 10 ^ i ≤ 10 ^ 18
short_power i within = pow-le-pow_right {n = 10} (omega arith) {i = i} {j = 18} within
