-- The limits of a store.
use Rattle.std.specs.Prelude.{ℕ}

-- the most live steps
abbrev pub most_steps : ℕ
most_steps = 4096

-- the most accepted commands
abbrev pub most_commits : ℕ
most_commits = 65536

-- the most bytes of documents over the base and the accepted commands
abbrev pub largest_store : ℕ
largest_store = 268435456
