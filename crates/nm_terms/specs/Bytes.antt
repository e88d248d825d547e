-- Bytes and texts of them, in the words of ASCII.
use Rattle.std.specs.Prelude.{ℕ, List, Bool, ◌&&◌, ◌||◌, nat_le, nat_eq}
use Rattle.std.specs.Cmp.Lexicographic.{pointwise}

-- whether the number is one of those from `low` to `high`
abbrev pub is_between : ℕ → ℕ → ℕ → Bool
is_between low high number = nat_le low number && nat_le number high

-- whether two texts are the same bytes
abbrev pub same_text : List ℕ → List ℕ → Bool
same_text = pointwise nat_eq

-- A to Z, a to z
abbrev pub is_letter : ℕ → Bool
is_letter byte = is_between 65 90 byte || is_between 97 122 byte

-- 0 to 9
abbrev pub is_digit : ℕ → Bool
is_digit = is_between 48 57

-- the bytes that print and are no space
abbrev pub is_visible : ℕ → Bool
is_visible = is_between 33 126
