-- The parts of a path between slashes.
use Rattle.std.specs.Prelude.{ℕ, ◌==◌, List, Bool}
use Rattle.std.specs.List.{after_first, before_first}

abbrev pub is_slash : ℕ → Bool
is_slash byte = byte == 47

-- the first segment of a text, up to its first slash
abbrev pub segment : List ℕ → List ℕ
segment text = before_first is_slash text

-- what stands behind the first segment and its slash
abbrev pub behind_segment : List ℕ → List ℕ
behind_segment text = after_first is_slash text

-- what stands behind `/`, the first word of the path and a slash: where its parameters begin
abbrev pub parameters : List ℕ → List ℕ
parameters path = behind_segment (behind_segment path)
