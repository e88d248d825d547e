-- A door in memory.
use Rattle.std.specs.Prelude.{ℕ, ◌-◌, List, [], ◌++◌, length, Bool, ◌||◌, ◌==◌}
use Rattle.nm_base.specs.Plan.{Plan, fails_next, plan_of}
use Rattle.nm_service.specs.MemoryLink.{Wire}
use Rattle.nm_service.specs.declared.ended.Ended.{Ended}

-- the links that are still to come, those that were closed, how many there are in all, and the calls that fail
pub record Hall : Type 0 where
  pub coming : List Wire
  pub ended : List (Wire × Ended)
  pub all : ℕ
  pub plan : Plan

-- all links are still to come
abbrev pub hall_of : List Wire → List ℕ → Hall
hall_of links fails = record { coming = links; ended = []; all = length links; plan = plan_of fails }

-- how many links were handed out
abbrev pub handed_out : Hall → ℕ
handed_out hall = hall.all - length hall.coming

-- whether the next call of `accept` fails: by the plan, or since no link is left
abbrev pub refuses_next : Hall → Bool
refuses_next hall = fails_next hall.plan || (length hall.coming == 0)
