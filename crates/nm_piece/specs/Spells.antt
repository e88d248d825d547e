-- What is a spelling of a piece (XML 1.0; Namespaces in XML), one record for each kind.
use Rattle.std.specs.Prelude.{◌≡◌, ℕ, List, [], ◌∷◌, ◌++◌, Bool, true, false, ◌||◌, ◌==◌, ◌⊎◌, Option, None, Some, map, codes, if◌then◌else◌}
use Rattle.nm_terms.specs.Bytes.{same_text}
use Rattle.nm_ident.specs.Name.{is_name}
use Rattle.nm_text.specs.Characters.{is_text}
use Rattle.nm_text.specs.Mark.{cdata_end, holds, two_dashes}
use Rattle.nm_text.specs.Meaning.{attribute_value, cdata_text, run_text}
use Rattle.nm_text.specs.White.{is_white, is_white_space, is_white_text}
use Rattle.nm_piece.specs.declared.piece.Attribute.{Attribute}
use Rattle.nm_piece.specs.declared.piece.Piece.{Piece}
use Rattle.nm_piece.specs.declared.piece.Piece.TheVariants.{Start, Doctype, Open, Close, Text, Skip}
use Rattle.nm_piece.specs.declared.piece.QName.{QName}
use Rattle.nm_piece.specs.Mark.{lower_case}
use Rattle.nm_piece.specs.Name.{is_qname, qname_text}
use Rattle.nm_piece.specs.Start.{is_encoding}
use Rattle.nm_piece.specs.Value.{are_references}
use Rattle.nm_text.specs.Split.{lacks}

-- ---- parts of tags

-- `=` with white space or none on both sides (XML 1.0, section 2.8: Eq)
pub record IsEquals (bytes : List ℕ) : Type 0 where
  pub left : List ℕ
  pub right : List ℕ
  pub whole : bytes ≡ left ++ codes "=" ++ right
  pub white_left : is_white_text left ≡ true
  pub white_right : is_white_text right ≡ true

-- `"` or `'`
abbrev pub is_quote : ℕ → Bool
is_quote byte = (byte == 34) || (byte == 39)

-- between two of the same quote, which does not stand inside
pub record IsQuoted (bytes inside : List ℕ) : Type 0 where
  pub quote : ℕ
  pub is_one : is_quote quote ≡ true
  pub whole : bytes ≡ quote ∷ inside ++ quote ∷ []
  pub unquoted : lacks quote inside ≡ true

-- white space, a name, `=`, and in quotes characters and references without `<` (XML 1.0, section 3.1)
pub record SpellsAttribute (bytes : List ℕ) (attribute : Attribute) : Type 0 where
  pub gap : List ℕ
  pub equals : List ℕ
  pub quoted : List ℕ
  pub inside : List ℕ
  pub whole : bytes ≡ gap ++ qname_text attribute.name ++ equals ++ quoted
  pub white : is_white_space gap ≡ true
  pub named : is_qname attribute.name ≡ true
  pub is_equals : IsEquals equals
  pub is_quoted : IsQuoted quoted inside
  pub characters : is_text inside ≡ true
  pub no_tag : lacks 60 inside ≡ true
  pub references : are_references inside ≡ true
  pub value : attribute_value inside ≡ Some attribute.value

abbrev pub SpellsAttributes : List ℕ → List Attribute → Type 0
SpellsAttributes bytes [] = bytes ≡ []
SpellsAttributes bytes (attribute ∷ attributes) =
    (first : List ℕ) × (others : List ℕ) × (bytes ≡ first ++ others) × SpellsAttribute first attribute × SpellsAttributes others attributes

abbrev pub tag_end : Bool → List ℕ
tag_end empty = if empty then codes "/>" else codes ">"

-- ---- tags

-- `<`, a name, attributes, white space or none, `>` or `/>` (XML 1.0, section 3.1: STag, EmptyElemTag)
pub record SpellsOpen (bytes : List ℕ) (name : QName) (attributes : List Attribute) (empty : Bool) : Type 0 where
  pub inside : List ℕ
  pub gap : List ℕ
  pub whole : bytes ≡ 60 ∷ qname_text name ++ inside ++ gap ++ tag_end empty
  pub named : is_qname name ≡ true
  pub each : SpellsAttributes inside attributes
  pub white : is_white_text gap ≡ true

-- `</`, a name, white space or none, `>` (XML 1.0, section 3.1: ETag)
pub record SpellsClose (bytes : List ℕ) (name : QName) : Type 0 where
  pub gap : List ℕ
  pub whole : bytes ≡ codes "</" ++ qname_text name ++ gap ++ codes ">"
  pub named : is_qname name ≡ true
  pub white : is_white_text gap ≡ true

-- ---- the XML declaration

-- white space, this word, `=`, and this value in quotes
pub record IsSetting (bytes word value : List ℕ) : Type 0 where
  pub gap : List ℕ
  pub equals : List ℕ
  pub quoted : List ℕ
  pub whole : bytes ≡ gap ++ word ++ equals ++ quoted
  pub white : is_white_space gap ≡ true
  pub is_equals : IsEquals equals
  pub is_quoted : IsQuoted quoted value

-- the encoding, if one is named (XML 1.0, section 4.3.3: EncodingDecl, with at most 40 characters)
abbrev pub IsEncodingSetting : List ℕ → Option (List ℕ) → Type 0
IsEncodingSetting bytes None = bytes ≡ []
IsEncodingSetting bytes (Some encoding) = IsSetting bytes (codes "encoding") encoding × (is_encoding encoding ≡ true)

-- whether the document stands alone, if that is said (XML 1.0, section 2.9: SDDecl)
abbrev pub IsStandaloneSetting : List ℕ → Type 0
IsStandaloneSetting bytes =
    (bytes ≡ []) ⊎ (IsSetting bytes (codes "standalone") (codes "yes") ⊎ IsSetting bytes (codes "standalone") (codes "no"))

-- `<?xml`, the settings in this order, white space or none, `?>` (XML 1.0, section 2.8: XMLDecl)
pub record SpellsStart (bytes : List ℕ) (encoding : Option (List ℕ)) : Type 0 where
  pub version_setting : List ℕ
  pub encoding_setting : List ℕ
  pub standalone_setting : List ℕ
  pub gap : List ℕ
  pub whole : bytes ≡ codes "<?xml" ++ version_setting ++ encoding_setting ++ standalone_setting ++ gap ++ codes "?>"
  pub version : IsSetting version_setting (codes "version") (codes "1.0")
  pub is_encoding : IsEncodingSetting encoding_setting encoding
  pub standalone : IsStandaloneSetting standalone_setting
  pub white : is_white_text gap ≡ true

-- ---- comments and instructions

-- `<!--`, characters without `--` that do not end in `-`, `-->` (XML 1.0, section 2.5: Comment)
pub record SpellsComment (bytes : List ℕ) : Type 0 where
  pub inside : List ℕ
  pub whole : bytes ≡ codes "<!--" ++ inside ++ codes "-->"
  pub characters : is_text inside ≡ true
  pub no_dashes : holds two_dashes (inside ++ codes "-") ≡ false

-- nothing, or a white byte and what may follow it
abbrev pub BeginsWhite : List ℕ → Type 0
BeginsWhite [] = Unit {0}
BeginsWhite (byte ∷ bytes) = is_white byte ≡ true

-- `xml` in any letter case (XML 1.0, section 2.6)
abbrev pub is_reserved : List ℕ → Bool
is_reserved name = same_text (map lower_case name) (codes "xml")

-- `<?`, a name that is not reserved, nothing or white space and characters without `?>`, `?>` (XML 1.0,
-- section 2.6: PI)
pub record SpellsInstruction (bytes : List ℕ) : Type 0 where
  pub name : List ℕ
  pub inside : List ℕ
  pub whole : bytes ≡ codes "<?" ++ name ++ inside ++ codes "?>"
  pub named : is_name name ≡ true
  pub free : is_reserved name ≡ false
  pub white : BeginsWhite inside
  pub characters : is_text inside ≡ true
  pub no_end : holds (codes "?>") inside ≡ false

-- ---- text

-- `<![CDATA[`, characters without `]]>`, `]]>` (XML 1.0, section 2.7: CDSect)
pub record SpellsCdata (bytes text : List ℕ) : Type 0 where
  pub inside : List ℕ
  pub whole : bytes ≡ codes "<![CDATA[" ++ inside ++ cdata_end
  pub characters : is_text inside ≡ true
  pub no_end : holds cdata_end inside ≡ false
  pub value : text ≡ cdata_text inside

-- one or more characters and references without `<` and `]]>` (XML 1.0, sections 2.4 and 4.1)
pub record SpellsRun (bytes text : List ℕ) : Type 0 where
  pub first : ℕ
  pub others : List ℕ
  pub whole : bytes ≡ first ∷ others
  pub characters : is_text bytes ≡ true
  pub no_tag : lacks 60 bytes ≡ true
  pub no_end : holds cdata_end bytes ≡ false
  pub references : are_references bytes ≡ true
  pub value : run_text bytes ≡ Some text

-- ---- all pieces

-- the bytes are a spelling of the piece
abbrev pub Spells : List ℕ → Piece → Type 0
Spells bytes (Start encoding) = SpellsStart bytes encoding
Spells bytes Doctype = bytes ≡ codes "<!DOCTYPE"
Spells bytes (Open name attributes empty) = SpellsOpen bytes name attributes empty
Spells bytes (Close name) = SpellsClose bytes name
Spells bytes (Text text) = SpellsCdata bytes text ⊎ SpellsRun bytes text
Spells bytes Skip = SpellsComment bytes ⊎ SpellsInstruction bytes

-- ---- at the front of a rest

-- `<` stands there
abbrev pub IsTagAhead : List ℕ → Type 0
IsTagAhead [] = ⊥
IsTagAhead (byte ∷ bytes) = byte ≡ 60

-- a run ends before `<`, or where the input ends; another piece may stand before anything
abbrev pub MayEndBefore : List ℕ → List ℕ → Bool → Type 0
MayEndBefore [] rest last = ⊥
MayEndBefore (byte ∷ bytes) rest last = (byte ≡ 60) ⊎ (IsTagAhead rest ⊎ ((rest ≡ []) × (last ≡ true)))

-- the piece is spelt at the front of the bytes, and the rest follows it; `last` says that the input ends with the bytes
pub record IsSpeltAt (bytes : List ℕ) (last : Bool) (piece : Piece) (rest : List ℕ) : Type 0 where
  pub front : List ℕ
  pub whole : bytes ≡ front ++ rest
  pub spelt : Spells front piece
  pub ends : MayEndBefore front rest last

-- no piece is spelt there
abbrev pub NoneIsSpeltAt : List ℕ → Bool → Type 0
NoneIsSpeltAt bytes last = (piece : Piece) (rest : List ℕ) → IsSpeltAt bytes last piece rest → ⊥

-- with one byte or more behind them the bytes are a spelling
pub record IsFront (bytes : List ℕ) : Type 0 where
  pub byte : ℕ
  pub more : List ℕ
  pub piece : Piece
  pub spelt : Spells (bytes ++ byte ∷ more) piece

-- no piece is spelt there, but one begins so; an empty rest is unfinished too
pub record IsUnfinished (bytes : List ℕ) (last : Bool) : Type 0 where
  pub none : NoneIsSpeltAt bytes last
  pub front : IsFront bytes
