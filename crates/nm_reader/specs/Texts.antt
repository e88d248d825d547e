-- Texts in their places.
use Rattle.std.specs.Prelude.{ℕ, List, ◌++◌, length, Bool, true, false, nat_le}
use Rattle.nm_text.specs.White.{is_white_text}
use Rattle.nm_statement.specs.Limits.{longest_literal}
use Rattle.nm_reader.specs.declared.place.Place.{Place}
use Rattle.nm_reader.specs.declared.place.Place.TheVariants.{BeforeRoot, InRoot, InLiteral, InSkipped, AfterRoot}

-- a literal is all the texts inside its element, joined
abbrev pub with_text : Place → List ℕ → Place
with_text (InLiteral owner before) text = InLiteral owner (before ++ text)
with_text place text = place

-- a literal may not grow too long; inside a property that is not kept any text may stand, and
-- elsewhere white text alone
abbrev pub takes_text : Place → List ℕ → Bool
takes_text (InLiteral owner before) text = nat_le (length (before ++ text)) longest_literal
takes_text InSkipped text = true
takes_text _ text = is_white_text text

-- an `rdf:RDF` does not end before its header, nor a document before its root
abbrev pub may_end : Place → Bool
may_end BeforeRoot = false
may_end InRoot = false
may_end _ = true

-- in the place behind the root the document is whole
abbrev pub is_after_root : Place → Bool
is_after_root AfterRoot = true
is_after_root _ = false
