-- A count that remembers the count before it.
use Rattle.std.specs.Prelude.{ℕ, ◌+◌, Option, None, Some}
use Rattle.std.specs.declared.snapshot.Snapshot.{Snapshot}

abbrev pub number_after : Option (Snapshot ℕ) → ℕ
number_after None = 0
number_after (Some before) = before.value + 1
