-- What comes next inside a start tag.
use Rattle.std.specs.Prelude.{◌≡◌, ℕ, ◌<◌, List, [], length, Bool, Ok}
use Rattle.nm_piece.specs.declared.piece.Attribute.{Attribute}
use Rattle.nm_piece.specs.declared.elements.Inside.{Inside as Next}
use Rattle.nm_piece.specs.declared.elements.Inside.TheVariants.{Attribute as AttributeNext, End}
use Rattle.nm_piece.specs.Raw.{attribute_of}
use Rattle.nm_piece.specs.Reading.{Read, ◌>>=◌}
use Rattle.nm_piece.specs.Tag.{Inside, inside_at, with_attribute}

-- whether the element is empty
abbrev pub without_attributes : Read Inside → Read Bool
without_attributes inside = inside >>= λ read. Ok (read.0.empty, read.1)

-- this attribute, and then these
abbrev pub behind_attribute : Attribute → Read Inside → Read Inside
behind_attribute first others = others >>= λ read. Ok (with_attribute first read.0, read.1)

-- what was read of the rest of a tag
abbrev pub IsNext : List ℕ → Next → List ℕ → Type 0
IsNext bytes (AttributeNext attribute) rest =
    (inside_at bytes ≡ behind_attribute (attribute_of attribute) (inside_at rest)) × (length rest < length bytes)
IsNext bytes (End empty) rest = inside_at bytes ≡ Ok (record { attributes = []; empty = empty }, rest)
