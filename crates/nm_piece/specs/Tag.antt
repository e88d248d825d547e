-- Tags of elements and their attributes (XML 1.0, section 3.1; Namespaces in XML, section 6).
use Rattle.std.specs.Prelude.{ℕ, zero, suc, List, [], ◌∷◌, length, Bool, true, false, Ok, codes}
use Rattle.nm_piece.specs.declared.piece.Attribute.{Attribute}
use Rattle.nm_piece.specs.declared.piece.Piece.{Piece}
use Rattle.nm_piece.specs.declared.piece.Piece.TheVariants.{Open, Close}
use Rattle.nm_piece.specs.Name.{equals_at, gap_at, qname_at}
use Rattle.nm_piece.specs.Reading.{Read, ◌>>=◌, choice, literal_at}
use Rattle.nm_piece.specs.Value.{begins_value, nothing_at, quoted_at, value_of}

-- an attribute without the white space before it
unfoldable pub attribute_at : List ℕ → Read Attribute
attribute_at bytes =
    qname_at bytes >>= λ name. equals_at name.1 >>= λ sign. quoted_at value_of begins_value sign.1 >>= λ value.
    Ok (record { name = name.0; value = value.0 }, value.1)

-- what follows the name in a start tag: attributes, and whether the element is empty
pub record Inside : Type 0 where
  pub attributes : List Attribute
  pub empty : Bool

abbrev pub with_attribute : Attribute → Inside → Inside
with_attribute attribute inside = record { attributes = attribute ∷ inside.attributes; empty = inside.empty }

-- `>` has come
abbrev pub plain_end : List ℕ → Read Inside
plain_end bytes = Ok (record { attributes = []; empty = false }, bytes)

-- `/` has come
abbrev pub empty_end : List ℕ → Read Inside
empty_end bytes = literal_at (codes ">") bytes >>= λ sign. Ok (record { attributes = []; empty = true }, sign.1)

-- the reading behind white space alone
abbrev pub behind_white : {X : Type 0} → Bool → (List ℕ → Read X) → List ℕ → Read X
behind_white true reading = reading
behind_white false reading = nothing_at

-- the end of a tag, or behind white space attributes by this reading
abbrev pub inside_by : (List ℕ → Read Inside) → List ℕ → Read Inside
inside_by attributes bytes =
    gap_at bytes >>= λ gap. choice 62 plain_end (choice 47 empty_end (behind_white gap.0 attributes)) gap.1

-- at most so many attributes, and the end of the tag
unfoldable pub inside_within : ℕ → List ℕ → Read Inside
inside_within zero = inside_by nothing_at
inside_within (suc count) =
    inside_by (λ bytes. attribute_at bytes >>= λ first. inside_within count first.1 >>= λ others. Ok (with_attribute first.0 others.0, others.1))

-- attributes, of which there are fewer than bytes, and the end of the tag
unfoldable pub inside_at : List ℕ → Read Inside
inside_at bytes = inside_within (length bytes) bytes

-- a start tag behind its `<`
unfoldable pub open_at : List ℕ → Read Piece
open_at bytes =
    qname_at bytes >>= λ name. inside_at name.1 >>= λ inside.
    Ok (Open name.0 inside.0.attributes inside.0.empty, inside.1)

-- an end tag behind its `</`
unfoldable pub close_at : List ℕ → Read Piece
close_at bytes =
    qname_at bytes >>= λ name. gap_at name.1 >>= λ gap. literal_at (codes ">") gap.1 >>= λ sign.
    Ok (Close name.0, sign.1)
