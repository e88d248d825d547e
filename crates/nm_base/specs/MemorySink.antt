-- A sink in memory.
use Rattle.std.specs.Prelude.{ℕ, List, []}
use Rattle.nm_base.specs.Plan.{Plan, plan_of}

-- the bytes written so far, and the calls that fail
pub record Intake : Type 0 where
  pub written : List ℕ
  pub plan : Plan

-- nothing written, before the first call
abbrev pub empty_intake : List ℕ → Intake
empty_intake fails = record { written = []; plan = plan_of fails }
