-- Calls that fail by plan.
use Rattle.std.specs.Prelude.{◌≡◌, ℕ, ◌+◌, ◌-◌, ◌^◌, ◌≤◌, min, Bool, ◌==◌, List, Result}
use Rattle.std.specs.List.{list_any}
use Rattle.nm_base.specs.Faults.{one_more, CountsEach}

-- fails: the numbers of the calls that fail, where the first call is number 0;
-- calls: how many calls were made; faults: how many calls failed
pub record Plan : Type 0 where
  pub fails : List ℕ
  pub calls : ℕ
  pub faults : ℕ

-- a plan before its first call
abbrev pub plan_of : List ℕ → Plan
plan_of fails = record { fails = fails; calls = 0; faults = 0 }

-- whether the next call is one that fails
abbrev pub fails_next : Plan → Bool
fails_next plan = list_any (λ n. n == plan.calls) plan.fails

-- one more call was made, and a fault was counted where it failed
pub record Advances {T E : Type 0} (before after : Plan) (result : Result T E) : Type 0 where
  pub fails : after.fails ≡ before.fails
  pub calls : after.calls ≡ min (before.calls + 1) (2 ^ 64 - 1)
  pub faults : CountsEach before.faults after.faults result

-- a fault was counted, and nothing else
pub record CountsFault (before after : Plan) : Type 0 where
  pub fails : after.fails ≡ before.fails
  pub calls : after.calls ≡ before.calls
  pub faults : after.faults ≡ one_more before.faults
  pub kept : before.faults ≤ after.faults
