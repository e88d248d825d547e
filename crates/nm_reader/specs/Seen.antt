-- How contracts see the attributes of a tag that are no declarations.
use Rattle.std.specs.Prelude.{ℕ, List, map, Option}
use Rattle.std.specs.Option.{option_map}
use denote.Ref.{Bor}
use Rattle.nm_piece.specs.declared.piece.Attribute.{Attribute}
use Rattle.nm_piece.specs.declared.piece.QName.{QName}
use Rattle.nm_reader.specs.Namespaces.{Given}
use Rattle.nm_reader.specs.declared.attributes.GivenAttribute.{GivenAttribute}

abbrev pub seen : GivenAttribute → Given
seen attribute = record {
  name = record { ns = attribute.ns.now; local = attribute.local.now };
  value = attribute.value.now;
}

abbrev pub all_seen : List GivenAttribute → List Given
all_seen attributes = map seen attributes

abbrev pub named : Attribute → QName
named attribute = attribute.name

-- a name that is spelt by a prefix, or none, and what stands behind it
abbrev pub spelt : (Option (Bor (List ℕ)) × Bor (List ℕ)) → QName
spelt spelling = record { prefix = option_map (λ prefix. prefix.now) spelling.0; local = spelling.1.now }
