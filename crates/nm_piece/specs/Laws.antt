-- What the spellings of pieces, reading them and cutting an input keep to.
use Rattle.std.specs.Prelude.{◌≡◌, ℕ, List, Bool, ◌↔◌, Ok, Err}
use Rattle.nm_piece.specs.declared.piece.Piece.{Piece}
use Rattle.nm_piece.specs.declared.unread.Unread.TheVariants.{Unfinished, NoPiece}
use Rattle.nm_piece.specs.Cutting.{IsCut, Placed}
use Rattle.nm_piece.specs.Piece.{piece_at}
use Rattle.nm_piece.specs.Reading.{Read}
use Rattle.nm_piece.specs.Spells.{IsSpeltAt, IsUnfinished, NoneIsSpeltAt}

abbrev pub given : Piece → List ℕ → Read Piece
given piece rest = Ok (piece, rest)

abbrev pub unfinished : Read Piece
unfinished = Err Unfinished

abbrev pub no_piece : Read Piece
no_piece = Err NoPiece

-- at most one piece is spelt at the front of bytes, with one rest behind it
abbrev pub OnePieceIsSpelt : Type 0
OnePieceIsSpelt =
    (bytes : List ℕ) (last : Bool) (piece other : Piece) (rest behind : List ℕ) → IsSpeltAt bytes last piece rest → IsSpeltAt bytes last other behind → (piece ≡ other) × (rest ≡ behind)

-- the reading gives a piece exactly where it is spelt, is unfinished exactly where none is and one begins so, and refuses exactly where neither holds
pub record ReadingIsExact : Type 0 where
  pub found : (bytes : List ℕ) (last : Bool) (piece : Piece) (rest : List ℕ) → (piece_at bytes last ≡ given piece rest) ↔ IsSpeltAt bytes last piece rest
  pub unfinished_there : (bytes : List ℕ) (last : Bool) → (piece_at bytes last ≡ unfinished) ↔ IsUnfinished bytes last
  pub nowhere : (bytes : List ℕ) (last : Bool) → (piece_at bytes last ≡ no_piece) ↔ (NoneIsSpeltAt bytes last × (IsUnfinished bytes last → ⊥))

-- an input is cut in one way
pub record OneCutting : Type 0 where
  pub some : (input : List ℕ) → (pieces : List Placed) × (rest : List ℕ) × IsCut input pieces rest
  pub one : (input : List ℕ) (pieces others : List Placed) (rest behind : List ℕ) → IsCut input pieces rest → IsCut input others behind → (pieces ≡ others) × (rest ≡ behind)
