-- The limits of generated streams.
use Rattle.std.specs.Prelude.{ℕ}

-- projects of a stream
abbrev pub most_projects : ℕ
most_projects = 2000
