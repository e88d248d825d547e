-- White space (XML 1.0, section 2.3).
use Rattle.std.specs.Prelude.{ℕ, List, [], ◌∷◌, Bool, false, ◌||◌, ◌==◌}
use Rattle.std.specs.List.{list_all}

-- space, tab, LF, CR
abbrev pub is_white : ℕ → Bool
is_white byte = (byte == 0x20) || (byte == 0x9) || (byte == 0xA) || (byte == 0xD)

-- white space alone, or nothing
abbrev pub is_white_text : List ℕ → Bool
is_white_text = list_all is_white

-- a run of white space: the production S
abbrev pub is_white_space : List ℕ → Bool
is_white_space [] = false
is_white_space (byte ∷ bytes) = is_white_text (byte ∷ bytes)
