-- The limits of a session.
use Rattle.std.specs.Prelude.{ℕ}

-- the most bytes of a command line before its line feed
abbrev pub longest_line : ℕ
longest_line = 256

-- the most bytes that a session takes as lines and documents
abbrev pub longest_session : ℕ
longest_session = 4294967296
