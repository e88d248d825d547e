-- An input cut into pieces.
use Rattle.std.specs.Prelude.{ℕ, List, map}
use Rattle.nm_piece.specs.Cutting.{Placed}
use Rattle.nm_piece.specs.declared.piece.Piece.{Piece}

-- what stands behind the pieces of an input: nothing, the front of a piece that the end of the input
-- cuts off, bytes with which no piece begins, or more than is read of a document
pub data Rest : Type 0 where
  Ended : Rest
  Unfinished : Rest
  NoPiece : Rest
  More : Rest

-- what stands at a place
pub data Here : Type 0 where
  Spelt : (piece : Piece) → Here
  Left : (rest : Rest) → Here

-- the pieces of an input, and what stands behind them
pub record Cutting : Type 0 where
  pub pieces : List Placed
  pub end : ℕ
  pub rest : Rest

abbrev pub piece_placed : Placed → Piece
piece_placed placed = placed.piece

abbrev pub pieces_cut : Cutting → List Piece
pieces_cut cutting = map piece_placed cutting.pieces
