-- Bytes that are cut before the first of some byte.
use Rattle.std.specs.Prelude.{◌≡◌, ℕ, List, [], ◌∷◌, ◌++◌, Bool, true, not, ◌==◌}
use Rattle.std.specs.List.{list_all}

-- whether the byte stands nowhere in the bytes
abbrev pub lacks : ℕ → List ℕ → Bool
lacks byte = list_all (λ other. not (other == byte))

-- whether the bytes begin with this one, or are none
abbrev pub begins_or_ends : ℕ → List ℕ → Bool
begins_or_ends byte [] = true
begins_or_ends byte (first ∷ bytes) = first == byte

-- the bytes are these two parts, and the second one begins at the first such byte
pub record IsSplitBefore (byte : ℕ) (bytes before behind : List ℕ) : Type 0 where
  pub joined : before ++ behind ≡ bytes
  pub lacked : lacks byte before ≡ true
  pub begins : begins_or_ends byte behind ≡ true
