-- The rules on documents, in their order: where each applies, and the code that it gives.
use Rattle.std.specs.Prelude.{ℕ, List, [], ◌∷◌, ◌++◌, length, Bool, true, false, ◌&&◌, ◌||◌, not, nat_le, if◌then◌else◌, Option, None, Some, is_none}
use Rattle.nm_reader.specs.Context.{Context, is_whole, tag_at}
use Rattle.nm_reader.specs.Opened.{Opened}
use Rattle.nm_reader.specs.Cutting.{Here, Spelt, Left, Ended, Unfinished, NoPiece, More}
use Rattle.nm_reader.specs.Document.{is_read_encoding}
use Rattle.nm_statement.specs.Limits.{longest_literal}
use Rattle.nm_reader.specs.Limits.{is_within_limits, plus}
use Rattle.nm_reader.specs.Meaning.{are_allowed, has_short_iris, told_by}
use Rattle.nm_reader.specs.Namespaces.{are_spelt_once, has_declared_prefixes, has_namespace, same_name, same_spelling}
use Rattle.nm_piece.specs.declared.piece.QName.{QName}
use Rattle.nm_piece.specs.declared.piece.Piece.TheVariants.{Start, Doctype, Open, Close, Text}
use Rattle.nm_reader.specs.Place.{root_name}
use Rattle.nm_reader.specs.Tag.{Tag, counted_by_tag, element_of, given_of, meaning_of_tag, role_of_tag, scope_of}
use Rattle.nm_reader.specs.Texts.{may_end}
use Rattle.nm_text.specs.White.{is_white_text}
use Rattle.nm_reader.specs.declared.fault.Code.{Code}
use Rattle.nm_reader.specs.declared.fault.Code.TheVariants as code
use Rattle.nm_reader.specs.declared.place.Place.{Place}
use Rattle.nm_reader.specs.declared.place.Place.TheVariants.{InLiteral, InSkipped}
use Rattle.nm_reader.specs.declared.place.Role.{Role}
use Rattle.nm_reader.specs.declared.place.Role.TheVariants.{EmptyRoot, ModelHeader, HeaderText, HeaderLink, ObjectElement, PropertyElement, NoHeader, Stray, Nested}

-- a rule applies by what stands before a place and at it
pub record Rule : Type 0 where
  pub applies : Context → Here → Bool
  pub code : Code

abbrev pub applies_cut : Context → Here → Bool
applies_cut context (Left Unfinished) = true
applies_cut context (Left Ended) = not (is_whole context)
applies_cut context _ = false

abbrev pub applies_no_piece : Context → Here → Bool
applies_no_piece context (Left NoPiece) = true
applies_no_piece context _ = false

abbrev pub applies_more : Context → Here → Bool
applies_more context (Left More) = true
applies_more context _ = false

abbrev pub applies_doctype : Context → Here → Bool
applies_doctype context (Spelt Doctype) = true
applies_doctype context _ = false

abbrev pub applies_late_start : Context → Here → Bool
applies_late_start context (Spelt (Start encoding)) = context.begun
applies_late_start context _ = false

abbrev pub applies_encoding : Context → Here → Bool
applies_encoding context (Spelt (Start encoding)) = not (is_read_encoding encoding)
applies_encoding context _ = false

abbrev pub closes : QName → List Opened → Bool
closes name [] = false
closes name (opened ∷ elements) = same_spelling opened.name name

abbrev pub applies_other_close : Context → Here → Bool
applies_other_close context (Spelt (Close name)) = not (closes name context.elements)
applies_other_close context _ = false

abbrev pub applies_close_without_header : Context → Here → Bool
applies_close_without_header context (Spelt (Close name)) = not (may_end context.place)
applies_close_without_header context _ = false

abbrev pub passes_literal : Place → List ℕ → Bool
passes_literal (InLiteral owner before) text = not (nat_le (length (before ++ text)) longest_literal)
passes_literal _ text = false

abbrev pub applies_long_literal : Context → Here → Bool
applies_long_literal context (Spelt (Text text)) = passes_literal context.place text
applies_long_literal context _ = false

abbrev pub is_misplaced_text : Place → List ℕ → Bool
is_misplaced_text (InLiteral owner before) text = false
is_misplaced_text InSkipped text = false
is_misplaced_text _ text = not (is_white_text text)

abbrev pub applies_text : Context → Here → Bool
applies_text context (Spelt (Text text)) = is_misplaced_text context.place text
applies_text context _ = false

-- a rule on tags
abbrev pub on_tag : (Context → Tag → Bool → Bool) → Context → Here → Bool
on_tag test context (Spelt (Open name attributes empty)) = test context (tag_at context name attributes) empty
on_tag test context _ = false

-- an empty `rdf:RDF` is one in every place but inside a property
abbrev pub role_at : Role → Bool → Role
role_at Nested empty_root = Nested
role_at role true = EmptyRoot
role_at role false = role

abbrev pub role_judged : Tag → Bool → Role
role_judged tag empty = role_at (role_of_tag tag) (empty && same_name root_name (element_of tag))

abbrev pub is_nested : Role → Bool
is_nested Nested = true
is_nested _ = false

abbrev pub lacks_header : Role → Bool → Bool
lacks_header NoHeader allowed = true
lacks_header EmptyRoot allowed = allowed
lacks_header _ allowed = false

abbrev pub is_stray : Role → Bool
is_stray Stray = true
is_stray _ = false

abbrev pub is_header : Role → Bool
is_header (ModelHeader kind) = true
is_header _ = false

abbrev pub is_of_object : Role → Bool
is_of_object (ObjectElement part) = true
is_of_object PropertyElement = true
is_of_object _ = false

abbrev pub is_header_property : Role → Bool
is_header_property (HeaderText property) = true
is_header_property (HeaderLink property) = true
is_header_property _ = false

abbrev pub has_no_meaning : Tag → Bool
has_no_meaning tag = is_none (meaning_of_tag tag)

abbrev pub nests : Context → Tag → Bool → Bool
nests context tag empty = is_nested (role_judged tag empty)

abbrev pub spells_twice : Context → Tag → Bool → Bool
spells_twice context tag empty = not (are_spelt_once tag.attributes)

abbrev pub declares_badly : Context → Tag → Bool → Bool
declares_badly context tag empty = not (has_declared_prefixes (scope_of tag) tag.name tag.attributes)

abbrev pub has_no_namespace : Context → Tag → Bool → Bool
has_no_namespace context tag empty = not (has_namespace (element_of tag))

abbrev pub wants_header : Context → Tag → Bool → Bool
wants_header context tag empty =
    lacks_header (role_judged tag empty) (are_allowed (role_judged tag empty) (given_of tag))

abbrev pub strays : Context → Tag → Bool → Bool
strays context tag empty = is_stray (role_judged tag empty)

abbrev pub has_other_attributes : Context → Tag → Bool → Bool
has_other_attributes context tag empty = not (are_allowed (role_judged tag empty) (given_of tag))

abbrev pub names_no_model : Context → Tag → Bool → Bool
names_no_model context tag empty = is_header (role_judged tag empty) && has_no_meaning tag

abbrev pub names_no_resource : Context → Tag → Bool → Bool
names_no_resource context tag empty = is_of_object (role_judged tag empty) && has_no_meaning tag

abbrev pub has_bad_value : Context → Tag → Bool → Bool
has_bad_value context tag empty = is_header_property (role_judged tag empty) && has_no_meaning tag

abbrev pub passes_limit : Context → Tag → Bool → Bool
passes_limit context tag empty =
    not (is_within_limits (plus context.counted (counted_by_tag tag)))
    || not (has_short_iris (told_by (meaning_of_tag tag)))

abbrev pub rules : List Rule
rules =
    record { applies = applies_cut; code = code.Cut }
    ∷ record { applies = applies_no_piece; code = code.Piece }
    ∷ record { applies = applies_more; code = code.Limit }
    ∷ record { applies = applies_doctype; code = code.Doctype }
    ∷ record { applies = applies_late_start; code = code.Stray }
    ∷ record { applies = applies_encoding; code = code.Encoding }
    ∷ record { applies = applies_other_close; code = code.Nesting }
    ∷ record { applies = applies_close_without_header; code = code.Header }
    ∷ record { applies = applies_long_literal; code = code.Limit }
    ∷ record { applies = applies_text; code = code.Text }
    ∷ record { applies = on_tag nests; code = code.Nesting }
    ∷ record { applies = on_tag spells_twice; code = code.Attribute }
    ∷ record { applies = on_tag declares_badly; code = code.Prefix }
    ∷ record { applies = on_tag has_no_namespace; code = code.Namespace }
    ∷ record { applies = on_tag wants_header; code = code.Header }
    ∷ record { applies = on_tag strays; code = code.Stray }
    ∷ record { applies = on_tag has_other_attributes; code = code.Attribute }
    ∷ record { applies = on_tag names_no_model; code = code.Header }
    ∷ record { applies = on_tag names_no_resource; code = code.Identifier }
    ∷ record { applies = on_tag has_bad_value; code = code.Header }
    ∷ record { applies = on_tag passes_limit; code = code.Limit }
    ∷ []

abbrev pub first_code : List Rule → Context → Here → Option Code
first_code [] context here = None
first_code (rule ∷ others) context here =
    if rule.applies context here then Some rule.code else first_code others context here

-- the code of the first rule that applies
unfoldable pub code_at : Context → Here → Option Code
code_at context here = first_code rules context here
