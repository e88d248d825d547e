-- The elements that are open, and what their tags declare (Namespaces in XML, section 3).
use Rattle.std.specs.Prelude.{ℕ, List, Option}
use Rattle.nm_piece.specs.declared.piece.QName.{QName}
use Rattle.nm_reader.specs.declared.place.Place.{Place}

-- a prefix with its namespace; without a prefix, the default namespace
pub record Declaration : Type 0 where
  pub prefix : Option (List ℕ)
  pub namespace : List ℕ

-- an element that is open, the place behind it, and what its tag declares
pub record Opened : Type 0 where
  pub name : QName
  pub behind : Place
  pub declared : List Declaration
