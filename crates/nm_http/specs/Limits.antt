-- The limits of a head.
use Rattle.std.specs.Prelude.{ℕ}

-- the most bytes of a head
abbrev pub longest_head : ℕ
longest_head = 16384

-- the most field lines of a head
abbrev pub most_fields : ℕ
most_fields = 64
