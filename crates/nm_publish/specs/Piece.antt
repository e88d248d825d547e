-- What the pieces of a history say: a base with its bytes, and a log.
use Rattle.std.specs.Prelude.{◌≡◌, List, [], ◌∷◌, Option, None, Some}
use Rattle.std.specs.List.{flat_map}
use Rattle.nm_publish.specs.declared.piece.Piece.{Piece}
use Rattle.nm_publish.specs.declared.piece.Piece.TheVariants.{Opened, Accepted}
use Rattle.nm_version.specs.Kept.{Kept}
use Rattle.nm_version.specs.declared.command.Entry.{Entry}

abbrev pub piece_log : Piece → List Entry
piece_log (Opened kept) = kept.log
piece_log (Accepted entry) = entry ∷ []

-- the log that the pieces make
abbrev pub log_of : List Piece → List Entry
log_of pieces = flat_map piece_log pieces

-- the version that the history begins with
abbrev pub opening_of : List Piece → Option Kept
opening_of [] = None
opening_of (Opened kept ∷ pieces) = Some kept
opening_of (Accepted entry ∷ pieces) = None

-- two versions of one base, with the same bytes
pub record OfOneBase (opening kept : Kept) : Type 0 where
  pub base : kept.base ≡ opening.base
  pub bytes : kept.bytes ≡ opening.bytes

abbrev pub OnBaseOf : Option Kept → Kept → Type 0
OnBaseOf None kept = ⊥
OnBaseOf (Some opening) kept = OfOneBase opening kept

-- what is kept has the base of the history's opening and the log that the pieces make
pub record IsTold (pieces : List Piece) (kept : Kept) : Type 0 where
  pub based : OnBaseOf (opening_of pieces) kept
  pub logged : kept.log ≡ log_of pieces
