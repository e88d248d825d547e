-- The models and faults of inputs, byte by byte.
use Rattle.std.specs.Prelude.{◌≤◌, ℕ, zero, suc, ◌+◌, ◌-◌, List, [], ◌∷◌, length, map, drop, take, Bool, true, false, nat_le, if◌then◌else◌, Option, Ok, Err}
use Rattle.nm_model.specs.Limits.{longest_document}
use Rattle.nm_model.specs.declared.document.Document.{Document}
use Rattle.nm_piece.specs.Cutting.{IsCut, Placed, mark_length}
use Rattle.nm_piece.specs.Piece.{piece_at}
use Rattle.nm_piece.specs.Reading.{Read}
use Rattle.nm_piece.specs.declared.piece.Piece.{Piece}
use Rattle.nm_piece.specs.declared.unread.Unread.{Unread}
use Rattle.nm_piece.specs.declared.unread.Unread.TheVariants as unread
use Rattle.nm_reader.specs.Context.{after_all, beginning}
use Rattle.nm_reader.specs.Cutting.{Cutting, Rest, Ended, Unfinished, NoPiece, More, piece_placed, pieces_cut}
use Rattle.nm_reader.specs.Document.{IsDocument}
use Rattle.nm_reader.specs.Fault.{fault_of}
use Rattle.nm_reader.specs.Model.{document_of}
use Rattle.nm_reader.specs.declared.fault.Fault.{Fault}

-- what stands behind the last piece
abbrev pub rest_of : List ℕ → Unread → Rest
rest_of [] why = Ended
rest_of (byte ∷ bytes) unread.Unfinished = Unfinished
rest_of (byte ∷ bytes) _ = NoPiece

abbrev pub nothing_from : ℕ → Rest → Cutting
nothing_from offset rest = record { pieces = []; end = offset; rest = rest }

abbrev pub with_piece : ℕ → Piece → Cutting → Cutting
with_piece offset piece behind = record behind { pieces = record { piece = piece; offset = offset } ∷ behind.pieces }

-- where more bytes follow than are read, all that is told of the end is that no piece begins there
abbrev pub before_more : ℕ → Rest → Cutting
before_more offset NoPiece = nothing_from offset NoPiece
before_more offset Ended = nothing_from longest_document More
before_more offset Unfinished = nothing_from longest_document More
before_more offset More = nothing_from longest_document More

-- the end of the pieces, where `last` says that the input ends with these bytes
abbrev pub end_at : Bool → ℕ → List ℕ → Unread → Cutting
end_at true offset bytes why = nothing_from offset (rest_of bytes why)
end_at false offset bytes why = before_more offset (rest_of bytes why)

-- the piece that was read at the front, and what is cut behind it
abbrev pub cut_behind : Bool → ℕ → List ℕ → Read Piece → (List ℕ → Cutting) → Cutting
cut_behind last offset bytes (Ok read) cut = with_piece offset read.0 (cut read.1)
cut_behind last offset bytes (Err why) cut = end_at last offset bytes why

-- the bytes from an offset, cut into fewer pieces than `most`
unfoldable pub cut_within : ℕ → Bool → ℕ → List ℕ → Cutting
cut_within zero last offset bytes = nothing_from offset NoPiece
cut_within (suc most) last offset bytes =
    cut_behind last offset bytes (piece_at bytes last) (λ behind. cut_within most last (offset + (length bytes - length behind)) behind)

-- an input has no more pieces than bytes, behind a byte order mark where it begins with one
abbrev pub cut : Bool → List ℕ → Cutting
cut last input = cut_within (suc (length input)) last (mark_length input) (drop (mark_length input) input)

-- more than the longest document is not read
abbrev pub cutting_of : List ℕ → Cutting
cutting_of input =
    if nat_le (length input) longest_document then cut true input else cut false (take longest_document input)

-- the fault of an input, which none has that states a model
abbrev pub fault_of_input : List ℕ → Option Fault
fault_of_input input = fault_of (cutting_of input)

-- the input has no more bytes than a document, is cut into pieces to its end, and they state the model
pub record IsDocumentOf (input : List ℕ) (model : Document) : Type 0 where
  pub short : length input ≤ longest_document
  pub pieces : List Placed
  pub cut : IsCut input pieces []
  pub states : IsDocument (map piece_placed pieces) model

-- what the pieces of an input tell
abbrev pub model_of_input : List ℕ → Option Document
model_of_input input = document_of (after_all beginning (pieces_cut (cutting_of input))).told
