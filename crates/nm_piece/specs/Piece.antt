-- The piece that stands at the front of a rest of the input.
use Rattle.std.specs.Prelude.{ℕ, List, [], Bool, true, false, Option, None, Some, Ok, Err, codes, if◌then◌else◌}
use Rattle.nm_piece.specs.declared.piece.Piece.{Piece}
use Rattle.nm_piece.specs.declared.piece.Piece.TheVariants.{Doctype}
use Rattle.nm_piece.specs.declared.unread.Unread.TheVariants.{Unfinished, NoPiece, NoMemory}
use Rattle.nm_piece.specs.Mark.{cdata_at, comment_at, question_at}
use Rattle.nm_piece.specs.Reading.{Read, ◌>>=◌, choice, literal_at}
use Rattle.nm_piece.specs.Run.{run_at, text_of_run}
use Rattle.nm_piece.specs.Tag.{close_at, open_at}
use Rattle.nm_text.specs.Split.{lacks}

unfoldable pub doctype_at : List ℕ → Read Piece
doctype_at bytes = literal_at (codes "DOCTYPE") bytes >>= λ word. Ok (Doctype, word.1)

-- behind `<!`: `-`, `[`, or `DOCTYPE`
unfoldable pub exclamation_at : List ℕ → Read Piece
exclamation_at = choice 45 comment_at (choice 91 cdata_at doctype_at)

-- behind `<`: `/`, `!`, `?`, or a name
unfoldable pub markup_at : List ℕ → Read Piece
markup_at = choice 47 close_at (choice 33 exclamation_at (choice 63 question_at open_at))

-- a piece that ends before the input does
unfoldable pub inner_piece_at : List ℕ → Read Piece
inner_piece_at = choice 60 markup_at run_at

-- a piece up to the end of the input
abbrev pub to_the_end : Option Piece → Read Piece
to_the_end None = Err Unfinished
to_the_end (Some piece) = Ok (piece, [])

-- a run that all of the rest is
abbrev pub last_run : List ℕ → Read Piece
last_run bytes = to_the_end (if lacks 60 bytes then text_of_run bytes else None)

-- what was read before the end, or where it was unfinished the last run
abbrev pub or_last_run : List ℕ → Read Piece → Read Piece
or_last_run bytes (Ok read) = Ok read
or_last_run bytes (Err Unfinished) = last_run bytes
or_last_run bytes (Err NoPiece) = Err NoPiece
or_last_run bytes (Err NoMemory) = Err NoMemory

-- the piece and what follows it, where `last` says that the input ends with these bytes
unfoldable pub piece_at : List ℕ → Bool → Read Piece
piece_at bytes true = or_last_run bytes (inner_piece_at bytes)
piece_at bytes false = inner_piece_at bytes
