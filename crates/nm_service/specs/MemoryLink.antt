-- A link in memory.
use Rattle.std.specs.Prelude.{ℕ, List, Some}
use Rattle.nm_base.specs.Beside.{Beside}
use Rattle.nm_base.specs.MemorySink.{Intake, empty_intake}
use Rattle.nm_base.specs.MemorySource.{Supply, supply_of}

-- what the client sends, and what was sent to it
pub record Wire : Type 0 where
  pub supply : Supply
  pub intake : Intake

-- a client that sends these bytes, to which nothing was sent yet; the listed reads and writes fail
abbrev pub wire_of : List ℕ → List ℕ → List ℕ → Wire
wire_of input reads writes = record { supply = supply_of input reads; intake = empty_intake writes }

-- beside what is read lies what was written
abbrev pub written_beside : Wire → Beside
written_beside wire = record { bytes = Some wire.intake.written; faults = wire.intake.plan.faults; room = 0 }

-- beside what is written lies what is left to read
abbrev pub left_beside : Wire → Beside
left_beside wire = record { bytes = Some wire.supply.left; faults = wire.supply.plan.faults; room = 0 }
