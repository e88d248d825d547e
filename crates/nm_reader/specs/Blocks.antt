-- A document as blocks: its elements with what stands inside them, texts and what is skipped.
use Rattle.std.specs.Prelude.{ℕ, List, [], ◌∷◌, ◌++◌, Bool, true, false, ◌&&◌}
use Rattle.nm_reader.specs.Limits.{nothing, plus}
use Rattle.nm_reader.specs.declared.counts.Counts.{Counts}
use Rattle.nm_reader.specs.Meaning.{told_at_end}
use Rattle.nm_reader.specs.Namespaces.{scope_inside}
use Rattle.nm_reader.specs.Opened.{Declaration}
use Rattle.nm_piece.specs.declared.piece.Attribute.{Attribute}
use Rattle.nm_piece.specs.declared.piece.Piece.{Piece}
use Rattle.nm_piece.specs.declared.piece.QName.{QName}
use Rattle.nm_piece.specs.declared.piece.Piece.TheVariants as piece
use Rattle.nm_reader.specs.Tag.{Tag, behind_tag, counted_by_tag, inside_of_tag, is_taken, told_by_tag}
use Rattle.nm_reader.specs.Texts.{may_end, takes_text, with_text}
use Rattle.nm_reader.specs.declared.fact.Fact.{Fact}
use Rattle.nm_reader.specs.declared.place.Place.{Place}

pub data Blocks : Type 0 where
  End : Blocks
  -- a comment or an instruction
  Skip : (behind : Blocks) → Blocks
  Text : (text : List ℕ) (behind : Blocks) → Blocks
  -- an empty tag
  Empty : (name : QName) (attributes : List Attribute) (behind : Blocks) → Blocks
  -- an opening tag, what stands inside, and a closing tag that is spelt alike
  Element : (name : QName) (attributes : List Attribute) (inside : Blocks) (behind : Blocks) → Blocks

-- the pieces that spell blocks
abbrev pub pieces_of : Blocks → List Piece
pieces_of End = []
pieces_of (Skip behind) = piece.Skip ∷ pieces_of behind
pieces_of (Text text behind) = piece.Text text ∷ pieces_of behind
pieces_of (Empty name attributes behind) = piece.Open name attributes true ∷ pieces_of behind
pieces_of (Element name attributes inside behind) =
    piece.Open name attributes false ∷ (pieces_of inside ++ (piece.Close name ∷ pieces_of behind))

abbrev pub tag_in : Place → List Declaration → QName → List Attribute → Tag
tag_in place outer name attributes = record { place = place; outer = outer; name = name; attributes = attributes }

-- the place behind blocks that begin in a place
abbrev pub place_after : Place → List Declaration → Blocks → Place
place_after place outer End = place
place_after place outer (Skip behind) = place_after place outer behind
place_after place outer (Text text behind) = place_after (with_text place text) outer behind
place_after place outer (Empty name attributes behind) =
    place_after (behind_tag (tag_in place outer name attributes)) outer behind
place_after place outer (Element name attributes inside behind) =
    place_after (behind_tag (tag_in place outer name attributes)) outer behind

-- whether each block may stand where it stands
abbrev pub fits : Place → List Declaration → Blocks → Bool
fits place outer End = true
fits place outer (Skip behind) = fits place outer behind
fits place outer (Text text behind) = takes_text place text && fits (with_text place text) outer behind
fits place outer (Empty name attributes behind) =
    is_taken (tag_in place outer name attributes)
    && may_end (inside_of_tag (tag_in place outer name attributes))
    && fits (behind_tag (tag_in place outer name attributes)) outer behind
fits place outer (Element name attributes inside behind) =
    is_taken (tag_in place outer name attributes)
    && fits (inside_of_tag (tag_in place outer name attributes)) (scope_inside outer attributes) inside
    && may_end (place_after (inside_of_tag (tag_in place outer name attributes)) (scope_inside outer attributes) inside)
    && fits (behind_tag (tag_in place outer name attributes)) outer behind

-- what blocks tell, in order
abbrev pub told : Place → List Declaration → Blocks → List Fact
told place outer End = []
told place outer (Skip behind) = told place outer behind
told place outer (Text text behind) = told (with_text place text) outer behind
told place outer (Empty name attributes behind) =
    told_by_tag (tag_in place outer name attributes)
    ++ (told_at_end (inside_of_tag (tag_in place outer name attributes))
    ++ told (behind_tag (tag_in place outer name attributes)) outer behind)
told place outer (Element name attributes inside behind) =
    told_by_tag (tag_in place outer name attributes)
    ++ (told (inside_of_tag (tag_in place outer name attributes)) (scope_inside outer attributes) inside
    ++ (told_at_end (place_after (inside_of_tag (tag_in place outer name attributes)) (scope_inside outer attributes) inside)
    ++ told (behind_tag (tag_in place outer name attributes)) outer behind))

-- what their tags count for
abbrev pub counted : Place → List Declaration → Blocks → Counts
counted place outer End = nothing
counted place outer (Skip behind) = counted place outer behind
counted place outer (Text text behind) = counted (with_text place text) outer behind
counted place outer (Empty name attributes behind) =
    plus (counted_by_tag (tag_in place outer name attributes))
    (counted (behind_tag (tag_in place outer name attributes)) outer behind)
counted place outer (Element name attributes inside behind) =
    plus (counted_by_tag (tag_in place outer name attributes))
    (plus (counted (inside_of_tag (tag_in place outer name attributes)) (scope_inside outer attributes) inside)
    (counted (behind_tag (tag_in place outer name attributes)) outer behind))
