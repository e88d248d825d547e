-- What comes next inside a start tag.
use Rattle.std.proofs.Common.{◌≡◌, ℕ, ◌≤◌, ◌<◌, Bool, true, false, eqb, List, ◌∷◌, length, Ok, Err, refl, ap, ◌∙◌, arith, length-append}
use Rattle.nm_piece.specs.declared.piece.Attribute.{Attribute}
use Rattle.nm_piece.specs.declared.unread.Unread.{Unread}
use Rattle.nm_piece.specs.Inside.{behind_attribute, without_attributes}
use Rattle.nm_piece.specs.Name.{gap_at}
use Rattle.nm_piece.specs.Reading.{Read, ◌>>=◌, choice}
use Rattle.nm_piece.specs.Tag.{Inside, attribute_at, behind_white, empty_end, inside_at, plain_end}
use Rattle.nm_piece.specs.Meant.{attributes_of, is_read}
use Rattle.nm_piece.specs.declared.unread.Unread.TheVariants.{NoPiece}
use Rattle.nm_piece.proofs.Readings.{ok_parts}
use Rattle.nm_piece.proofs.Segments.{is_gap_at}
use Rattle.nm_piece.proofs.Tags.{bare_initial, inside_steps, is_attribute_at}

-- an attribute, and what follows it
abbrev pub attributes_at : List ℕ → Read Inside
attributes_at rest = attribute_at rest >>= λ first. behind_attribute first.0 (inside_at first.1)

abbrev pub behind_gap : Bool → List ℕ → Read Inside
behind_gap white = choice 62 plain_end (choice 47 empty_end (behind_white white attributes_at))

pub inside_behind : (bytes rest : List ℕ) (white : Bool) → gap_at bytes ≡ Ok (white, rest) → inside_at bytes ≡ behind_gap white rest
inside_behind bytes rest white e = inside_steps bytes ∙ rw e refl

pub inside_unread : (bytes : List ℕ) (unread : Unread) → gap_at bytes ≡ Err unread → inside_at bytes ≡ Err unread
inside_unread bytes unread e = inside_steps bytes ∙ rw e refl

-- ---- what is left is less

gap_less : (bytes rest : List ℕ) (white : Bool) → gap_at bytes ≡ Ok (white, rest) → length rest ≤ length bytes
gap_less bytes rest white e = let t = is_gap_at.takes bytes white rest e in omega (arith, ap length t.whole, length-append t.text rest)

attribute_less : (bytes rest : List ℕ) (attribute : Attribute) → attribute_at bytes ≡ Ok (attribute, rest) → length rest < length bytes
attribute_less bytes rest attribute e =
    let t = is_attribute_at.takes bytes attribute rest e in
    let f = bare_initial t.text attribute t.spelt in
    omega (arith, ap length t.whole, length-append t.text rest, ap length f.whole)

pub less_is_left : (bytes between rest : List ℕ) (white : Bool) (attribute : Attribute) → gap_at bytes ≡ Ok (white, between) → attribute_at between ≡ Ok (attribute, rest) → length rest < length bytes
less_is_left bytes between rest white attribute p q = omega (arith, gap_less bytes between white p, attribute_less between rest attribute q)

-- ---- without the attributes

pub forgets : (attribute : Attribute) (others : Read Inside) → without_attributes (behind_attribute attribute others) ≡ without_attributes others
forgets attribute (Ok read) = refl
forgets attribute (Err unread) = refl

-- ---- behind white space

pub attributes_here : (rest : List ℕ) (byte : ℕ) (behind : List ℕ) (white : Bool) → rest ≡ byte ∷ behind → eqb byte 62 ≡ false → eqb byte 47 ≡ false → white ≡ true → behind_gap white rest ≡ attributes_at rest
attributes_here rest byte behind white w e f t = rw (w, e, f, t) refl

pub nothing_here : (rest : List ℕ) (byte : ℕ) (behind : List ℕ) (white : Bool) → rest ≡ byte ∷ behind → eqb byte 62 ≡ false → eqb byte 47 ≡ false → white ≡ false → behind_gap white rest ≡ Err NoPiece
nothing_here rest byte behind white w e f t = rw (w, e, f, t) refl

-- what was read is what there is, with its attributes
pub with_its_attributes : (inside : Read Inside) (empty : Bool) (rest : List ℕ) → Ok (empty, rest) ≡ without_attributes inside → inside ≡ Ok (record { attributes = attributes_of inside; empty = empty }, rest)
with_its_attributes (Ok read) empty rest e = let p = ok_parts empty read.0.empty rest read.1 e in rw (p.0, p.1) refl
with_its_attributes (Err unread) empty rest e = absurd cc

pub is_read_so : (inside : Read Inside) (empty : Bool) (rest : List ℕ) → Ok (empty, rest) ≡ without_attributes inside → is_read inside ≡ true
is_read_so (Ok read) empty rest e = refl
is_read_so (Err unread) empty rest e = absurd cc
