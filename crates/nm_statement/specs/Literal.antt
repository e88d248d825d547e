-- Literals.
use Rattle.std.specs.Prelude.{ℕ, List, length, Bool, ◌&&◌, nat_le}
use Rattle.nm_text.specs.Characters.{is_text}
use Rattle.nm_statement.specs.Limits.{longest_literal}

-- a text of characters of XML that is not too long
abbrev pub is_literal : List ℕ → Bool
is_literal bytes = is_text bytes && nat_le (length bytes) longest_literal
