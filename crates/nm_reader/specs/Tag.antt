-- A tag in its place: what is asked of it, and what comes of it.
use Rattle.std.specs.Prelude.{List, Bool, ◌&&◌, Option, is_some}
use Rattle.nm_ident.specs.QualifiedName.{QualifiedName}
use Rattle.nm_reader.specs.Meaning.{are_allowed, counted_by, has_short_iris, inside_of, meaning_of, told_by}
use Rattle.nm_reader.specs.Namespaces.{Given, are_spelt_once, element_name, given_by, has_declared_prefixes, has_namespace, scope_inside}
use Rattle.nm_reader.specs.Opened.{Declaration}
use Rattle.nm_piece.specs.declared.piece.Attribute.{Attribute}
use Rattle.nm_piece.specs.declared.piece.QName.{QName}
use Rattle.nm_reader.specs.Place.{place_behind, role_of}
use Rattle.nm_reader.specs.declared.fact.Fact.{Fact}
use Rattle.nm_reader.specs.declared.place.Place.{Place}
use Rattle.nm_reader.specs.declared.place.Role.{Role}
use Rattle.nm_reader.specs.declared.counts.Counts.{Counts}
use Rattle.nm_reader.specs.declared.meaning.Meaning.{Meaning}

-- a tag, its place, and the declarations in force around it
pub record Tag : Type 0 where
  pub place : Place
  pub outer : List Declaration
  pub name : QName
  pub attributes : List Attribute

-- the declarations in force inside the tag, its own among them
abbrev pub scope_of : Tag → List Declaration
scope_of tag = scope_inside tag.outer tag.attributes

abbrev pub element_of : Tag → QualifiedName
element_of tag = element_name (scope_of tag) tag.name

abbrev pub given_of : Tag → List Given
given_of tag = given_by (scope_of tag) tag.attributes

abbrev pub role_of_tag : Tag → Role
role_of_tag tag = role_of tag.place (element_of tag)

abbrev pub meaning_of_tag : Tag → Option Meaning
meaning_of_tag tag = meaning_of tag.place (role_of_tag tag) (element_of tag) (given_of tag)

-- whether the element may stand in its place with its attributes, and means something there
unfoldable pub is_taken : Tag → Bool
is_taken tag =
    are_spelt_once tag.attributes
    && has_declared_prefixes (scope_of tag) tag.name tag.attributes
    && has_namespace (element_of tag)
    && are_allowed (role_of_tag tag) (given_of tag)
    && is_some (meaning_of_tag tag)
    && has_short_iris (told_by (meaning_of_tag tag))

-- the place inside the element, and behind it
unfoldable pub inside_of_tag : Tag → Place
inside_of_tag tag = inside_of (meaning_of_tag tag)

unfoldable pub behind_tag : Tag → Place
behind_tag tag = place_behind (role_of_tag tag) tag.place

-- what the tag tells, and what it counts for
unfoldable pub told_by_tag : Tag → List Fact
told_by_tag tag = told_by (meaning_of_tag tag)

unfoldable pub counted_by_tag : Tag → Counts
counted_by_tag tag = counted_by (meaning_of_tag tag)
