-- Ends of lines (XML 1.0, section 2.11).
use Rattle.std.specs.Prelude.{ℕ, List, [], ◌∷◌, ◌++◌, Bool, false, ◌==◌, if◌then◌else◌}

abbrev pub begins_with_line_feed : List ℕ → Bool
begins_with_line_feed [] = false
begins_with_line_feed (byte ∷ bytes) = byte == 10

-- a CR is read as LF, or goes where LF follows it
abbrev pub line_end_before : List ℕ → List ℕ
line_end_before bytes = if begins_with_line_feed bytes then [] else 10 ∷ []

-- the byte as it is read before these
abbrev pub read_before : ℕ → List ℕ → List ℕ
read_before byte bytes = if byte == 13 then line_end_before bytes else byte ∷ []

-- the bytes with CR LF, and every other CR, as LF
abbrev pub normal_lines : List ℕ → List ℕ
normal_lines [] = []
normal_lines (byte ∷ bytes) = read_before byte bytes ++ normal_lines bytes
