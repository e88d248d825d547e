-- The model that the pieces of a document state (RDF/XML; IEC 61970-552).
use Rattle.std.specs.Prelude.{◌≡◌, ℕ, List, [], ◌∷◌, ◌++◌, Bool, true, Option, None, Some, codes}
use Rattle.std.specs.Str.{str_eq_ignore_ascii_case}
use Rattle.nm_model.specs.declared.document.Document.{Document}
use Rattle.nm_reader.specs.Blocks.{Blocks, counted, fits, pieces_of, place_after, told}
use Rattle.nm_reader.specs.Cutting.{Cutting, Ended, pieces_cut}
use Rattle.nm_reader.specs.Limits.{is_within_limits}
use Rattle.nm_reader.specs.Model.{document_of}
use Rattle.nm_piece.specs.declared.piece.Piece.{Piece}
use Rattle.nm_piece.specs.declared.piece.Piece.TheVariants.{Start}
use Rattle.nm_reader.specs.Texts.{is_after_root}
use Rattle.nm_reader.specs.declared.place.Place.TheVariants.{BeforeRoot}

-- UTF-8 in any letter case, or no encoding named
abbrev pub is_read_encoding : Option (List ℕ) → Bool
is_read_encoding None = true
is_read_encoding (Some encoding) = str_eq_ignore_ascii_case encoding (codes "UTF-8")

-- an XML declaration, or none
abbrev pub prolog : Option (Option (List ℕ)) → List Piece
prolog None = []
prolog (Some encoding) = Start encoding ∷ []

abbrev pub is_read_prolog : Option (Option (List ℕ)) → Bool
is_read_prolog None = true
is_read_prolog (Some encoding) = is_read_encoding encoding

-- the pieces are an XML declaration and blocks, or blocks alone, which fit the shape of a document
-- up to its end, state no more than is kept, and make this model
pub record IsDocument (pieces : List Piece) (model : Document) : Type 0 where
  pub declaration : Option (Option (List ℕ))
  pub blocks : Blocks
  pub spelt : pieces ≡ prolog declaration ++ pieces_of blocks
  pub encoding : is_read_prolog declaration ≡ true
  pub shape : fits BeforeRoot [] blocks ≡ true
  pub whole : is_after_root (place_after BeforeRoot [] blocks) ≡ true
  pub limits : is_within_limits (counted BeforeRoot [] blocks) ≡ true
  pub meaning : document_of (told BeforeRoot [] blocks) ≡ Some model

-- the input is cut into such pieces up to its end
abbrev pub States : Cutting → Document → Type 0
States cutting model = (cutting.rest ≡ Ended) × IsDocument (pieces_cut cutting) model
