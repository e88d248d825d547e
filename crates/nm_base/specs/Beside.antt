-- What lies beside a source or a sink.
use Rattle.std.specs.Prelude.{ℕ, List, Option, None}

-- What a value that is both a source and a sink has on its other side, and what a sink has room for.
-- bytes: those of the other side, where it tells them; faults: the other side's count; room: how many
-- bytes a steady sink takes in all, and 0 elsewhere
pub record Beside : Type 0 where
  pub bytes : Option (List ℕ)
  pub faults : ℕ
  pub room : ℕ

-- beside a value that is only a source or only a sink, and has no room to speak of
abbrev pub nothing_beside : Beside
nothing_beside = record { bytes = None; faults = 0; room = 0 }
