-- The next piece of an input, in memory of its own.
use Rattle.std.specs.Prelude.{ℕ, ◌-◌, List, length, Bool, true, false, Option, None, Some, Result, Ok, Err}
use Rattle.nm_piece.specs.declared.piece.Piece.{Piece}
use Rattle.nm_piece.specs.declared.unread.PieceError.{PieceError}
use Rattle.nm_piece.specs.declared.unread.PieceError.TheVariants.{NoPiece as NoPieceError, NoMemory as NoMemoryError}
use Rattle.nm_piece.specs.declared.unread.Unread.TheVariants.{Unfinished, NoPiece, NoMemory}
use Rattle.nm_piece.specs.Piece.{piece_at}
use Rattle.nm_piece.specs.Reading.{Read}

abbrev pub wants_memory : PieceError → Bool
wants_memory NoPieceError = false
wants_memory NoMemoryError = true

-- the piece with its length, nothing at an unfinished rest, or the refusal
abbrev pub next_of : ℕ → Read Piece → Result (Option (Piece × ℕ)) PieceError
next_of count (Ok read) = Ok (Some (read.0, count - length read.1))
next_of count (Err Unfinished) = Ok None
next_of count (Err NoPiece) = Err NoPieceError
next_of count (Err NoMemory) = Err NoMemoryError

abbrev pub next_due : List ℕ → Bool → Result (Option (Piece × ℕ)) PieceError
next_due bytes last = next_of (length bytes) (piece_at bytes last)
