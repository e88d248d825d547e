-- A whole input cut into pieces with their offsets, and the rest at which no piece is spelt.
use Rattle.std.specs.Prelude.{◌≡◌, ℕ, ◌+◌, ◌-◌, List, [], ◌∷◌, length, drop, true, nat_eq, if◌then◌else◌}
use Rattle.std.specs.List.{starts_with}
use Rattle.nm_piece.specs.declared.piece.Piece.{Piece}
use Rattle.nm_piece.specs.Spells.{IsSpeltAt, NoneIsSpeltAt}

-- a piece, and its offset in the input
pub record Placed : Type 0 where
  pub piece : Piece
  pub offset : ℕ

-- the bytes, of which the first stands at this offset, are these pieces and then the rest
abbrev pub IsCutFrom : ℕ → List ℕ → List Placed → List ℕ → Type 0
IsCutFrom offset bytes [] rest = (bytes ≡ rest) × NoneIsSpeltAt rest true
IsCutFrom offset bytes (placed ∷ others) rest =
    (behind : List ℕ) × (placed.offset ≡ offset) × IsSpeltAt bytes true placed.piece behind
    × IsCutFrom (offset + (length bytes - length behind)) behind others rest

-- the UTF-8 of U+FEFF (XML 1.0, section 4.3.3)
abbrev pub byte_order_mark : List ℕ
byte_order_mark = 0xEF ∷ 0xBB ∷ 0xBF ∷ []

-- how many bytes stand before the first piece
abbrev pub mark_length : List ℕ → ℕ
mark_length input = if starts_with nat_eq input byte_order_mark then 3 else 0

-- a byte order mark at the front of the input is no piece
abbrev pub IsCut : List ℕ → List Placed → List ℕ → Type 0
IsCut input pieces rest = IsCutFrom (mark_length input) (drop (mark_length input) input) pieces rest
