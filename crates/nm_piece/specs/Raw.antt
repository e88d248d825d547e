-- What is read where it stands in the input, and what it is kept as.
use Rattle.std.specs.Prelude.{ℕ, List, Result, Ok, Err}
use Rattle.std.specs.Option.{option_map}
use Rattle.nm_piece.specs.declared.piece.Attribute.{Attribute}
use Rattle.nm_piece.specs.declared.piece.QName.{QName}
use Rattle.nm_piece.specs.declared.raw.RawAttribute.{RawAttribute}
use Rattle.nm_piece.specs.declared.raw.RawName.{RawName}
use Rattle.nm_piece.specs.declared.unread.Unread.{Unread}
use Rattle.nm_piece.specs.Reading.{Read}

-- what was read, seen as a value with what stands behind it
abbrev pub read_as : {R X : Type 0} → (R → X × List ℕ) → Result R Unread → Read X
read_as view (Ok read) = Ok (view read)
read_as view (Err unread) = Err unread

abbrev pub name_of : RawName → QName
name_of raw = record { prefix = option_map (λ prefix. prefix.now) raw.prefix; local = raw.local.now }

abbrev pub attribute_of : RawAttribute → Attribute
attribute_of raw = record { name = name_of raw.name; value = raw.value }
