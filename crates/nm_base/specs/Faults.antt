-- How a count of faults moves in a call. A count in a `u64` stays at 2^64 - 1.
use Rattle.std.specs.Prelude.{◌≡◌, ℕ, ◌+◌, ◌-◌, ◌^◌, ◌≤◌, min, Result, OnErr, OnOk, MatchResult}

-- the count after one more fault
abbrev pub one_more : ℕ → ℕ
one_more count = min (count + 1) (2 ^ 64 - 1)

-- a count that rose, or stands at the end of its type
abbrev pub IsRisen : ℕ → ℕ → Type 0
IsRisen before after = min (before + 1) (2 ^ 64 - 1) ≤ after

-- the count never falls, an error comes only where it rose, and an `Ok` leaves it
pub record CountsFaults {T E : Type 0} (before after : ℕ) (result : Result T E) : Type 0 where
  pub kept : before ≤ after
  pub rose : OnErr result (IsRisen before after)
  pub stays : OnOk result (after ≡ before)

-- an error adds one to the count, and an `Ok` leaves it
abbrev pub CountsEach : {T E : Type 0} → ℕ → ℕ → Result T E → Type 0
CountsEach before after result = MatchResult result (λ _. after ≡ before) (λ _. after ≡ one_more before)
