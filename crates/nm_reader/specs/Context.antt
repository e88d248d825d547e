-- What the pieces before a place leave there: the open elements, the place in the shape of a
-- document, the declarations in force, and what has been told.
use Rattle.std.specs.Prelude.{List, [], ◌∷◌, ◌++◌, Bool, true, false, ◌&&◌}
use Rattle.std.specs.List.{flat_map}
use Rattle.nm_reader.specs.Limits.{nothing, plus}
use Rattle.nm_reader.specs.Meaning.{told_at_end}
use Rattle.nm_reader.specs.Namespaces.{declared_by}
use Rattle.nm_reader.specs.Opened.{Declaration}
use Rattle.nm_piece.specs.declared.piece.Attribute.{Attribute}
use Rattle.nm_piece.specs.declared.piece.Piece.{Piece}
use Rattle.nm_piece.specs.declared.piece.QName.{QName}
use Rattle.nm_piece.specs.declared.piece.Piece.TheVariants.{Start, Doctype, Open, Close, Text, Skip}
use Rattle.nm_reader.specs.Tag.{Tag, behind_tag, counted_by_tag, inside_of_tag, told_by_tag}
use Rattle.nm_reader.specs.Texts.{is_after_root, with_text}
use Rattle.nm_reader.specs.declared.fact.Fact.{Fact}
use Rattle.nm_reader.specs.declared.place.Place.{Place}
use Rattle.nm_reader.specs.declared.place.Place.TheVariants.{BeforeRoot}
use Rattle.nm_reader.specs.declared.counts.Counts.{Counts}
use Rattle.nm_reader.specs.Opened.{Opened}

pub record Context : Type 0 where
  -- innermost first
  pub elements : List Opened
  pub place : Place
  pub told : List Fact
  pub counted : Counts
  -- whether a piece stands before the place
  pub begun : Bool

-- before the first piece
abbrev pub beginning : Context
beginning = record { elements = []; place = BeforeRoot; told = []; counted = nothing; begun = false }

abbrev pub declared_of : Opened → List Declaration
declared_of opened = opened.declared

-- the declarations in force, innermost first
abbrev pub scope_in : List Opened → List Declaration
scope_in elements = flat_map declared_of elements

abbrev pub tag_at : Context → QName → List Attribute → Tag
tag_at context name attributes =
    record { place = context.place; outer = scope_in context.elements; name = name; attributes = attributes }

abbrev pub entered : Context → Tag → Context
entered context tag = record {
  elements = record { name = tag.name; behind = behind_tag tag; declared = declared_by tag.attributes } ∷ context.elements;
  place = inside_of_tag tag;
  told = context.told ++ told_by_tag tag;
  counted = plus context.counted (counted_by_tag tag);
  begun = true;
}

abbrev pub left_behind : List Opened → Context → Context
left_behind [] context = record context { begun = true }
left_behind (opened ∷ elements) context = record {
  elements = elements;
  place = opened.behind;
  told = context.told ++ told_at_end context.place;
  counted = context.counted;
  begun = true;
}

-- the innermost element ends
abbrev pub left : Context → Context
left context = left_behind context.elements context

-- an empty tag ends where it begins
abbrev pub after_tag : Context → Tag → Bool → Context
after_tag context tag true = left (entered context tag)
after_tag context tag false = entered context tag

abbrev pub after : Context → Piece → Context
after context (Open name attributes empty) = after_tag context (tag_at context name attributes) empty
after context (Close name) = left context
after context (Text text) = record context { place = with_text context.place text; begun = true }
after context (Start encoding) = record context { begun = true }
after context Doctype = record context { begun = true }
after context Skip = record context { begun = true }

abbrev pub after_all : Context → List Piece → Context
after_all context [] = context
after_all context (piece ∷ pieces) = after_all (after context piece) pieces

abbrev pub is_empty : List Opened → Bool
is_empty [] = true
is_empty (opened ∷ elements) = false

-- whether the document may end here: its root is behind, and no element is open
abbrev pub is_whole : Context → Bool
is_whole context = is_after_root context.place && is_empty context.elements
