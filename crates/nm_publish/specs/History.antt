-- The history of a store: which book it stands in, and its pieces so far.
use Rattle.std.specs.Prelude.{◌≡◌, ℕ, ◌+◌, ◌==◌, true, List, [], ◌∷◌, ◌++◌, length, MatchBool}
use mathlib.Core.List.{IsPrefix}
use Rattle.logbook.specs.Pages.{Book, Cell, Named, Step, View}
use Rattle.nm_publish.specs.declared.piece.Piece.{Piece}
use Rattle.nm_publish.specs.declared.piece.Piece.TheVariants.{Opened}
use Rattle.nm_version.specs.Kept.{Kept}

pub record History : Type 0 where
  pub book : Book
  pub pieces : List Piece

abbrev pub history : Book → List Piece → History
history book pieces = record { book = book; pieces = pieces }

-- the history with one piece more
abbrev pub and_then : History → Piece → History
and_then before piece = history before.book (before.pieces ++ piece ∷ [])

-- the history in this book begins with the opening
pub record BeginsIn (book : Book) (opening : Kept) (told : History) : Type 0 where
  pub same : told.book ≡ book
  pub opens : IsPrefix (Opened opening ∷ []) told.pieces

-- the later history goes on from the earlier one
pub record GoesOn (earlier later : History) : Type 0 where
  pub same : later.book ≡ earlier.book
  pub begins : IsPrefix earlier.pieces later.pieces

-- ---- the rule of the book

-- the book's one word counts the pieces behind the opening
pub record IsCounted (cells : List Cell) (pieces : List Piece) : Type 0 where
  pub commits : ℕ
  pub counted : commits + 1 ≡ length pieces
  pub words : cells ≡ (commits, true) ∷ []

-- the word of the book
abbrev pub word_of : Book → Named
word_of book = record { tracked = true; key = 0; book = book }

-- the step has put its piece behind all that was seen, where it found the count of that; else the history was
-- longer, and was seen
abbrev pub Adds : Step Piece → View Piece ℕ → ℕ → View Piece ℕ → Type 0
Adds step seen found after = MatchBool (found == step.old) (after.0 ≡ seen.0 ++ step.ask ∷ []) (found + 1 ≡ length after.0)
