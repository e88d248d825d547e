-- A source in memory.
use Rattle.std.specs.Prelude.{ℕ, List}
use Rattle.nm_base.specs.Plan.{Plan, plan_of}

-- the bytes that are left, and the calls that fail
pub record Supply : Type 0 where
  pub left : List ℕ
  pub plan : Plan

-- all of the bytes, before the first call
abbrev pub supply_of : List ℕ → List ℕ → Supply
supply_of bytes fails = record { left = bytes; plan = plan_of fails }
