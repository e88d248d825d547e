-- Worked examples of the definitions, computed, on the pieces of documents. The offset of each piece
-- is its number in the row.
use Rattle.std.proofs.Common.{◌≡◌, ℕ, ◌+◌, List, [], ◌∷◌, ◌++◌, codes, replicate, true, false, Option, None, Some, length, refl}
use Rattle.uuid.proofs.OnLiterals.{uuid_on_literals}
use Rattle.nm_ident.specs.Name.{dm_namespace, md_namespace, rdf_namespace, type_name}
use Rattle.nm_ident.specs.QualifiedName.{QualifiedName}
use Rattle.nm_ident.specs.UuidText.{uuid_of}
use Rattle.nm_ident.specs.declared.ident.Ident.TheVariants.{Local}
use Rattle.nm_model.specs.declared.document.Document.{Document}
use Rattle.nm_model.specs.declared.document.Document.TheVariants as document
use Rattle.nm_model.specs.declared.header.Header.{Header}
use Rattle.nm_statement.specs.declared.object.Object.{Object}
use Rattle.nm_statement.specs.declared.object.Object.TheVariants as object
use Rattle.nm_statement.specs.declared.statement.Statement.{Statement}
use Rattle.nm_reader.specs.Blocks.{Blocks, End, counted, fits, pieces_of, place_after, told}
use Rattle.nm_reader.specs.Blocks as block
use Rattle.nm_reader.specs.Context.{after_all, beginning}
use Rattle.nm_piece.specs.Cutting.{Placed}
use Rattle.nm_reader.specs.Cutting.{Ended, NoPiece, Rest, Unfinished}
use Rattle.nm_reader.specs.Fault.{fault_of}
use Rattle.nm_reader.specs.Limits as limits
use Rattle.nm_reader.specs.Model.{document_of}
use Rattle.nm_reader.specs.Namespaces.{xml_namespace}
use Rattle.nm_piece.specs.declared.piece.Attribute.{Attribute}
use Rattle.nm_piece.specs.declared.piece.Piece.{Piece}
use Rattle.nm_piece.specs.declared.piece.QName.{QName}
use Rattle.nm_piece.specs.declared.piece.Piece.TheVariants.{Close, Doctype, Open, Skip, Start, Text}
use Rattle.nm_reader.specs.Rules.{code_at}
use Rattle.nm_reader.specs.Tag.{behind_tag, counted_by_tag, inside_of_tag, is_taken, told_by_tag}
use Rattle.nm_reader.specs.declared.fault.Code.{Code}
use Rattle.nm_reader.specs.declared.fault.Code.TheVariants as code
use Rattle.nm_reader.specs.declared.fault.Fault.{Fault}
use Rattle.nm_reader.specs.declared.place.Place.TheVariants.{BeforeRoot, AfterRoot}

-- ---- how a piece is written here

-- what is opened for all of them
unfoldable pub reader_on_pieces : Unit {0}
unfolding code_at is_taken inside_of_tag behind_tag counted_by_tag told_by_tag uuid_of uuid_on_literals
reader_on_pieces = tt

abbrev prefixed : List ℕ → List ℕ → QName
prefixed prefix local = record { prefix = Some prefix; local = local }

abbrev bare : List ℕ → QName
bare local = record { prefix = None; local = local }

abbrev rdf : List ℕ → QName
rdf local = prefixed (codes "rdf") local

abbrev md : List ℕ → QName
md local = prefixed (codes "md") local

abbrev dm : List ℕ → QName
dm local = prefixed (codes "dm") local

abbrev cim : List ℕ → QName
cim local = prefixed (codes "cim") local

abbrev is : QName → List ℕ → Attribute
is name value = record { name = name; value = value }

abbrev declares : List ℕ → List ℕ → Attribute
declares prefix namespace = is (prefixed (codes "xmlns") prefix) namespace

abbrev pub cim_namespace : List ℕ
cim_namespace = codes "http://iec.ch/TC57/2013/CIM-schema-cim16#"

abbrev declarations : List Attribute
declarations =
    declares (codes "rdf") rdf_namespace ∷ declares (codes "md") md_namespace ∷ declares (codes "dm") dm_namespace
    ∷ declares (codes "cim") cim_namespace ∷ []

abbrev opened : QName → List Attribute → Piece
opened name attributes = Open name attributes false

abbrev empty : QName → List Attribute → Piece
empty name attributes = Open name attributes true

abbrev about : List ℕ → List Attribute
about value = is (rdf (codes "about")) value ∷ []

abbrev id : List ℕ → List Attribute
id value = is (rdf (codes "ID")) value ∷ []

abbrev resource : List ℕ → List Attribute
resource value = is (rdf (codes "resource")) value ∷ []

-- the UUID of RFC 9562, section 4, and its number
abbrev pub uuid : List ℕ
uuid = codes "f81d4fae-7dec-11d0-a765-00a0c91e6bf6"

abbrev pub number : ℕ
number = 329800735698586629295641978511506172918

abbrev root : Piece
root = opened (rdf (codes "RDF")) declarations

abbrev end_of_root : Piece
end_of_root = Close (rdf (codes "RDF"))

abbrev header : Piece
header = empty (md (codes "FullModel")) (about (codes "urn:uuid:" ++ uuid))

-- the pieces behind the header of a full model, which begin at 2
abbrev body : List Piece → List Piece
body pieces = root ∷ header ∷ pieces

-- the pieces inside the header of a full model, and of a difference model; they begin at 2
abbrev in_header : List Piece → List Piece
in_header pieces = root ∷ opened (md (codes "FullModel")) (about (codes "urn:uuid:" ++ uuid)) ∷ pieces

abbrev in_difference : List Piece → List Piece
in_difference pieces = root ∷ opened (dm (codes "DifferenceModel")) (about (codes "urn:uuid:" ++ uuid)) ∷ pieces

abbrev numbered : ℕ → List Piece → List Placed
numbered at [] = []
numbered at (piece ∷ pieces) = record { piece = piece; offset = at } ∷ numbered (at + 1) pieces

abbrev fault_before : Rest → List Piece → Option Fault
fault_before rest pieces = fault_of (record { pieces = numbered 0 pieces; end = length pieces; rest = rest })

-- where more stands behind the pieces
abbrev fault_in : List Piece → Option Fault
fault_in = fault_before NoPiece

abbrev fault : ℕ → Code → Option Fault
fault at code = Some (record { at = at; code = code })

-- ---- the end of the input

nothing_at_all : fault_before Ended ([]) ≡ fault 0 code.Cut
unfolding reader_on_pieces
nothing_at_all = refl

cut_in_a_piece : fault_before Unfinished (body []) ≡ fault 2 code.Cut
unfolding reader_on_pieces
cut_in_a_piece = refl

root_left_open : fault_before Ended (body []) ≡ fault 2 code.Cut
unfolding reader_on_pieces
root_left_open = refl

no_piece : fault_before NoPiece ([]) ≡ fault 0 code.Piece
unfolding reader_on_pieces
no_piece = refl

smallest : fault_before Ended (body (end_of_root ∷ [])) ≡ None
unfolding reader_on_pieces
smallest = refl

behind_the_root : fault_before Ended (body (end_of_root ∷ Skip ∷ Text (codes " ") ∷ [])) ≡ None
unfolding reader_on_pieces
behind_the_root = refl

-- ---- the XML declaration and the document type

declared : fault_before Ended (Start (Some (codes "utf-8")) ∷ body (end_of_root ∷ [])) ≡ None
unfolding reader_on_pieces
declared = refl

other_encoding : fault_in (Start (Some (codes "ISO-8859-1")) ∷ []) ≡ fault 0 code.Encoding
unfolding reader_on_pieces
other_encoding = refl

late_declaration : fault_in (Skip ∷ Start (Some (codes "ISO-8859-1")) ∷ []) ≡ fault 1 code.Stray
unfolding reader_on_pieces
late_declaration = refl

document_type : fault_in (Skip ∷ Doctype ∷ []) ≡ fault 1 code.Doctype
unfolding reader_on_pieces
document_type = refl

-- ---- closing tags

close_of_nothing : fault_in (end_of_root ∷ []) ≡ fault 0 code.Nesting
unfolding reader_on_pieces
close_of_nothing = refl

close_of_another : fault_in (body (Close (cim (codes "RDF")) ∷ [])) ≡ fault 2 code.Nesting
unfolding reader_on_pieces
close_of_another = refl

-- the same name, spelt otherwise
close_with_another_prefix : fault_in (opened (rdf (codes "RDF")) (declares (codes "r") rdf_namespace ∷ declarations) ∷ header ∷ Close (prefixed (codes "r") (codes "RDF")) ∷ []) ≡ fault 2 code.Nesting
unfolding reader_on_pieces
close_with_another_prefix = refl

no_header : fault_in (root ∷ end_of_root ∷ []) ≡ fault 1 code.Header
unfolding reader_on_pieces
no_header = refl

-- ---- text

text_between_objects : fault_in (body (Text (codes "x") ∷ [])) ≡ fault 2 code.Text
unfolding reader_on_pieces
text_between_objects = refl

-- whatever spelt it: a reference, or an empty CDATA section
white_of_any_spelling : fault_before Ended (body (Text (32 ∷ 9 ∷ 10 ∷ 13 ∷ []) ∷ Text [] ∷ end_of_root ∷ [])) ≡ None
unfolding reader_on_pieces
white_of_any_spelling = refl

text_beside_a_resource : fault_in (body (opened (cim (codes "A")) (id (codes "a")) ∷ opened (cim (codes "p")) (resource (codes "#b")) ∷ Text (codes "x") ∷ [])) ≡ fault 4 code.Text
unfolding reader_on_pieces
text_beside_a_resource = refl

-- neither its text nor its resource is judged
text_of_another_header_property : fault_before Ended (in_header (opened (cim (codes "note")) (resource []) ∷ Text (codes "x") ∷ Close (cim (codes "note")) ∷ Close (md (codes "FullModel")) ∷ end_of_root ∷ [])) ≡ None
unfolding reader_on_pieces
text_of_another_header_property = refl

-- ---- elements inside properties

element_in_a_property : fault_in (body (opened (cim (codes "A")) (id (codes "a")) ∷ opened (cim (codes "p")) [] ∷ empty (bare (codes "b")) [] ∷ [])) ≡ fault 4 code.Nesting
unfolding reader_on_pieces
element_in_a_property = refl

root_in_a_property : fault_in (body (opened (cim (codes "A")) (id (codes "a")) ∷ opened (cim (codes "p")) [] ∷ empty (rdf (codes "RDF")) [] ∷ [])) ≡ fault 4 code.Nesting
unfolding reader_on_pieces
root_in_a_property = refl

element_in_a_header_property : fault_in (in_header (opened (md (codes "Model.created")) [] ∷ empty (cim (codes "b")) [] ∷ [])) ≡ fault 3 code.Nesting
unfolding reader_on_pieces
element_in_a_header_property = refl

element_in_another_header_property : fault_in (in_header (opened (cim (codes "note")) [] ∷ empty (cim (codes "b")) [] ∷ [])) ≡ fault 3 code.Nesting
unfolding reader_on_pieces
element_in_another_header_property = refl

-- ---- attributes that are spelt twice, and prefixes

twice_with_an_unknown_prefix : fault_in (body (opened (prefixed (codes "x") (codes "A")) (id (codes "a") ++ id (codes "b")) ∷ [])) ≡ fault 2 code.Attribute
unfolding reader_on_pieces
twice_with_an_unknown_prefix = refl

unknown_prefix : fault_in (body (opened (prefixed (codes "x") (codes "A")) (id (codes "a")) ∷ [])) ≡ fault 2 code.Prefix
unfolding reader_on_pieces
unknown_prefix = refl

unknown_prefix_of_an_attribute : fault_in (body (opened (cim (codes "A")) (is (prefixed (codes "x") (codes "y")) [] ∷ id (codes "a")) ∷ [])) ≡ fault 2 code.Prefix
unfolding reader_on_pieces
unknown_prefix_of_an_attribute = refl

unknown_prefix_of_a_misplaced_element : fault_in (in_difference (Close (dm (codes "DifferenceModel")) ∷ empty (prefixed (codes "x") (codes "A")) [] ∷ [])) ≡ fault 3 code.Prefix
unfolding reader_on_pieces
unknown_prefix_of_a_misplaced_element = refl

declares_xml : fault_in (body (opened (cim (codes "A")) (declares (codes "xml") xml_namespace ∷ id (codes "a")) ∷ [])) ≡ fault 2 code.Prefix
unfolding reader_on_pieces
declares_xml = refl

declares_xmlns : fault_in (body (opened (cim (codes "A")) (declares (codes "xmlns") cim_namespace ∷ id (codes "a")) ∷ [])) ≡ fault 2 code.Prefix
unfolding reader_on_pieces
declares_xmlns = refl

declares_for_nothing : fault_in (body (opened (cim (codes "A")) (declares (codes "x") [] ∷ id (codes "a")) ∷ [])) ≡ fault 2 code.Prefix
unfolding reader_on_pieces
declares_for_nothing = refl

element_named_xmlns : fault_in (body (opened (prefixed (codes "xmlns") (codes "A")) (id (codes "a")) ∷ [])) ≡ fault 2 code.Prefix
unfolding reader_on_pieces
element_named_xmlns = refl

declaration_outlived : fault_in (body (empty (prefixed (codes "x") (codes "A")) (declares (codes "x") cim_namespace ∷ id (codes "a")) ∷ empty (prefixed (codes "x") (codes "A")) (id (codes "b")) ∷ [])) ≡ fault 3 code.Prefix
unfolding reader_on_pieces
declaration_outlived = refl

inner_declaration_holds : fault_in (body (opened (cim (codes "A")) (declares (codes "cim") (codes "cim") ∷ id (codes "a")) ∷ [])) ≡ fault 2 code.Namespace
unfolding reader_on_pieces
inner_declaration_holds = refl

-- ---- namespaces

no_namespace : fault_in (body (opened (bare (codes "A")) (id (codes "a")) ∷ [])) ≡ fault 2 code.Namespace
unfolding reader_on_pieces
no_namespace = refl

default_namespace_taken_away : fault_in (body (opened (bare (codes "A")) (is (bare (codes "xmlns")) cim_namespace ∷ id (codes "a")) ∷ opened (bare (codes "p")) (is (bare (codes "xmlns")) [] ∷ []) ∷ [])) ≡ fault 3 code.Namespace
unfolding reader_on_pieces
default_namespace_taken_away = refl

default_namespace : fault_before Ended (body (empty (bare (codes "A")) (is (bare (codes "xmlns")) cim_namespace ∷ id (codes "a")) ∷ end_of_root ∷ [])) ≡ None
unfolding reader_on_pieces
default_namespace = refl

no_default_namespace_of_attributes : fault_in (body (empty (cim (codes "A")) (is (bare (codes "xmlns")) rdf_namespace ∷ is (bare (codes "ID")) (codes "a") ∷ []) ∷ [])) ≡ fault 2 code.Attribute
unfolding reader_on_pieces
no_default_namespace_of_attributes = refl

namespace_without_an_end : fault_in (body (empty (prefixed (codes "x") (codes "A")) (declares (codes "x") (codes "http://iec.ch/CIM16") ∷ id (codes "a")) ∷ [])) ≡ fault 2 code.Namespace
unfolding reader_on_pieces
namespace_without_an_end = refl

-- ---- the header's place

another_element_for_the_header : fault_in (root ∷ opened (md (codes "FullModes")) (about (codes "urn:uuid:" ++ uuid)) ∷ []) ≡ fault 1 code.Header
unfolding reader_on_pieces
another_element_for_the_header = refl

root_for_the_header : fault_in (root ∷ opened (rdf (codes "RDF")) [] ∷ []) ≡ fault 1 code.Header
unfolding reader_on_pieces
root_for_the_header = refl

empty_root : fault_in (empty (rdf (codes "RDF")) declarations ∷ []) ≡ fault 0 code.Header
unfolding reader_on_pieces
empty_root = refl

empty_root_in_the_body : fault_in (body (empty (rdf (codes "RDF")) [] ∷ [])) ≡ fault 2 code.Header
unfolding reader_on_pieces
empty_root_in_the_body = refl

empty_root_in_a_header : fault_in (in_header (empty (rdf (codes "RDF")) [] ∷ [])) ≡ fault 2 code.Header
unfolding reader_on_pieces
empty_root_in_a_header = refl

empty_root_in_a_section : fault_in (in_difference (opened (dm (codes "preconditions")) [] ∷ empty (rdf (codes "RDF")) [] ∷ [])) ≡ fault 3 code.Header
unfolding reader_on_pieces
empty_root_in_a_section = refl

empty_root_in_an_object : fault_in (body (opened (cim (codes "A")) (id (codes "a")) ∷ empty (rdf (codes "RDF")) [] ∷ [])) ≡ fault 3 code.Header
unfolding reader_on_pieces
empty_root_in_an_object = refl

empty_root_behind_a_difference : fault_in (in_difference (Close (dm (codes "DifferenceModel")) ∷ empty (rdf (codes "RDF")) [] ∷ [])) ≡ fault 3 code.Header
unfolding reader_on_pieces
empty_root_behind_a_difference = refl

empty_root_with_an_attribute : fault_in (body (empty (rdf (codes "RDF")) (id (codes "a")) ∷ [])) ≡ fault 2 code.Attribute
unfolding reader_on_pieces
empty_root_with_an_attribute = refl

empty_root_behind_the_root : fault_in (body (end_of_root ∷ empty (rdf (codes "RDF")) (is (prefixed (codes "rdf") (codes "about")) [] ∷ declarations) ∷ [])) ≡ fault 3 code.Attribute
unfolding reader_on_pieces
empty_root_behind_the_root = refl

-- ---- elements that may not stand in their place

no_root : fault_in (opened (md (codes "FullModel")) (declarations ++ about (codes "urn:uuid:" ++ uuid)) ∷ []) ≡ fault 0 code.Stray
unfolding reader_on_pieces
no_root = refl

second_header : fault_in (body (header ∷ [])) ≡ fault 2 code.Stray
unfolding reader_on_pieces
second_header = refl

second_root : fault_in (body (opened (rdf (codes "RDF")) [] ∷ [])) ≡ fault 2 code.Stray
unfolding reader_on_pieces
second_root = refl

behind_the_header_of_a_difference : fault_in (in_difference (Close (dm (codes "DifferenceModel")) ∷ opened (cim (codes "A")) (id (codes "a")) ∷ [])) ≡ fault 3 code.Stray
unfolding reader_on_pieces
behind_the_header_of_a_difference = refl

section_of_a_full_model : fault_in (in_header (opened (dm (codes "preconditions")) [] ∷ [])) ≡ fault 2 code.Stray
unfolding reader_on_pieces
section_of_a_full_model = refl

other_section : fault_in (in_difference (opened (dm (codes "differences")) [] ∷ [])) ≡ fault 2 code.Stray
unfolding reader_on_pieces
other_section = refl

type_in_a_header : fault_in (in_header (empty (rdf (codes "type")) (resource (codes "#a")) ∷ [])) ≡ fault 2 code.Stray
unfolding reader_on_pieces
type_in_a_header = refl

bag_in_the_body : fault_in (body (opened (rdf (codes "Bag")) (id (codes "a")) ∷ [])) ≡ fault 2 code.Stray
unfolding reader_on_pieces
bag_in_the_body = refl

header_name_in_a_section : fault_in (in_difference (opened (dm (codes "preconditions")) [] ∷ empty (md (codes "FullModel")) (id (codes "a")) ∷ [])) ≡ fault 3 code.Stray
unfolding reader_on_pieces
header_name_in_a_section = refl

-- a place comes before an attribute
other_rdf_property : fault_in (body (opened (cim (codes "A")) (id (codes "a")) ∷ empty (rdf (codes "value")) (is (rdf (codes "nodeID")) [] ∷ []) ∷ [])) ≡ fault 3 code.Stray
unfolding reader_on_pieces
other_rdf_property = refl

behind_the_root_again : fault_in (body (end_of_root ∷ opened (cim (codes "A")) (declarations ++ id (codes "a")) ∷ [])) ≡ fault 3 code.Stray
unfolding reader_on_pieces
behind_the_root_again = refl

-- ---- attributes

node_id : fault_in (body (opened (cim (codes "A")) (is (rdf (codes "nodeID")) (codes "a") ∷ []) ∷ [])) ≡ fault 2 code.Attribute
unfolding reader_on_pieces
node_id = refl

about_and_id : fault_in (body (opened (cim (codes "A")) (id (codes "a") ++ about (codes "#a")) ∷ [])) ≡ fault 2 code.Attribute
unfolding reader_on_pieces
about_and_id = refl

language_of_an_object : fault_in (body (opened (cim (codes "A")) (is (prefixed (codes "xml") (codes "lang")) (codes "en") ∷ id (codes "a")) ∷ [])) ≡ fault 2 code.Attribute
unfolding reader_on_pieces
language_of_an_object = refl

language_and_datatype_of_a_property : fault_before Ended (body (opened (cim (codes "A")) (id (codes "a")) ∷ empty (cim (codes "p")) (is (prefixed (codes "xml") (codes "lang")) (codes "en") ∷ is (rdf (codes "datatype")) [] ∷ resource (codes "#b")) ∷ Close (cim (codes "A")) ∷ end_of_root ∷ [])) ≡ None
unfolding reader_on_pieces
language_and_datatype_of_a_property = refl

language_under_another_prefix : fault_before Ended (body (opened (cim (codes "A")) (id (codes "a")) ∷ empty (cim (codes "p")) (declares (codes "x") xml_namespace ∷ is (prefixed (codes "x") (codes "lang")) [] ∷ resource (codes "#b")) ∷ Close (cim (codes "A")) ∷ end_of_root ∷ [])) ≡ None
unfolding reader_on_pieces
language_under_another_prefix = refl

language_under_two_prefixes : fault_in (body (opened (cim (codes "A")) (id (codes "a")) ∷ empty (cim (codes "p")) (declares (codes "x") xml_namespace ∷ is (prefixed (codes "x") (codes "lang")) [] ∷ is (prefixed (codes "xml") (codes "lang")) [] ∷ []) ∷ [])) ≡ fault 3 code.Attribute
unfolding reader_on_pieces
language_under_two_prefixes = refl

property_attribute : fault_in (body (opened (cim (codes "A")) (is (cim (codes "p")) (codes "x") ∷ id (codes "a")) ∷ [])) ≡ fault 2 code.Attribute
unfolding reader_on_pieces
property_attribute = refl

parse_type_of_a_property : fault_in (body (opened (cim (codes "A")) (id (codes "a")) ∷ opened (cim (codes "p")) (is (rdf (codes "parseType")) (codes "Resource") ∷ []) ∷ [])) ≡ fault 3 code.Attribute
unfolding reader_on_pieces
parse_type_of_a_property = refl

other_parse_type : fault_in (in_difference (opened (dm (codes "preconditions")) (is (rdf (codes "parseType")) (codes "Resource") ∷ []) ∷ [])) ≡ fault 2 code.Attribute
unfolding reader_on_pieces
other_parse_type = refl

twice_on_another_header_property : fault_in (in_header (opened (cim (codes "note")) (resource [] ++ resource []) ∷ [])) ≡ fault 2 code.Attribute
unfolding reader_on_pieces
twice_on_another_header_property = refl

attribute_of_another_header_property : fault_in (in_header (opened (cim (codes "note")) (is (rdf (codes "nodeID")) [] ∷ []) ∷ [])) ≡ fault 2 code.Attribute
unfolding reader_on_pieces
attribute_of_another_header_property = refl

-- ---- identities and references

header_without_identity : fault_in (root ∷ opened (md (codes "FullModel")) [] ∷ []) ≡ fault 1 code.Header
unfolding reader_on_pieces
header_without_identity = refl

header_without_a_uuid : fault_in (root ∷ opened (md (codes "FullModel")) (about (codes "#a")) ∷ []) ≡ fault 1 code.Header
unfolding reader_on_pieces
header_without_a_uuid = refl

object_without_identity : fault_in (body (opened (cim (codes "A")) [] ∷ [])) ≡ fault 2 code.Identifier
unfolding reader_on_pieces
object_without_identity = refl

hash_in_an_id : fault_in (body (opened (cim (codes "A")) (id (codes "#a")) ∷ [])) ≡ fault 2 code.Identifier
unfolding reader_on_pieces
hash_in_an_id = refl

no_hash_in_an_about : fault_in (body (opened (cim (codes "A")) (about (codes "a")) ∷ [])) ≡ fault 2 code.Identifier
unfolding reader_on_pieces
no_hash_in_an_about = refl

empty_resource : fault_in (body (opened (cim (codes "A")) (id (codes "a")) ∷ empty (cim (codes "p")) (resource []) ∷ [])) ≡ fault 3 code.Identifier
unfolding reader_on_pieces
empty_resource = refl

resource_of_no_name : fault_in (body (opened (cim (codes "A")) (id (codes "a")) ∷ empty (cim (codes "p")) (resource (codes "#1")) ∷ [])) ≡ fault 3 code.Identifier
unfolding reader_on_pieces
resource_of_no_name = refl

created_with_a_resource : fault_in (in_header (empty (md (codes "Model.created")) (resource (codes "#a")) ∷ [])) ≡ fault 2 code.Header
unfolding reader_on_pieces
created_with_a_resource = refl

depends_on_nothing : fault_in (in_header (empty (md (codes "Model.DependentOn")) [] ∷ [])) ≡ fault 2 code.Header
unfolding reader_on_pieces
depends_on_nothing = refl

depends_on_an_empty_resource : fault_in (in_header (empty (md (codes "Model.DependentOn")) (resource []) ∷ [])) ≡ fault 2 code.Header
unfolding reader_on_pieces
depends_on_an_empty_resource = refl

depends_on_an_upper_case_urn : fault_in (in_header (empty (md (codes "Model.DependentOn")) (resource (codes "URN:UUID:" ++ uuid)) ∷ [])) ≡ fault 2 code.Header
unfolding reader_on_pieces
depends_on_an_upper_case_urn = refl

supersedes_a_local_name : fault_in (in_header (empty (md (codes "Model.Supersedes")) (resource (codes "#a")) ∷ [])) ≡ fault 2 code.Header
unfolding reader_on_pieces
supersedes_a_local_name = refl

-- ---- limits

iri_of_2048_bytes : fault_before Ended (body (opened (cim (codes "A")) (id (codes "a")) ∷ empty (cim (codes "p")) (resource (replicate 2048 97)) ∷ Close (cim (codes "A")) ∷ end_of_root ∷ [])) ≡ None
unfolding reader_on_pieces
iri_of_2048_bytes = refl

iri_of_2049_bytes : fault_in (body (opened (cim (codes "A")) (id (codes "a")) ∷ empty (cim (codes "p")) (resource (replicate 2049 97)) ∷ [])) ≡ fault 3 code.Limit
unfolding reader_on_pieces
iri_of_2049_bytes = refl

abbrev profile : Piece
profile = empty (md (codes "Model.profile")) []

-- also where they are one profile
sixty_five_profiles : fault_in (in_header (replicate 65 profile)) ≡ fault 66 code.Limit
unfolding reader_on_pieces
sixty_five_profiles = refl

-- ---- what documents state

abbrev model_in : List Piece → Option Document
model_in pieces = document_of (after_all beginning pieces).told

abbrev cim_name : List ℕ → QualifiedName
cim_name local = record { ns = cim_namespace; local = local }

abbrev pub bare_header : Header
bare_header = record {
  id = number;
  created = None;
  scenario_time = None;
  version = None;
  description = None;
  authority = None;
  profiles = [];
  depends = [];
  supersedes = [];
}

abbrev pub full_of : Header → List Statement → Option Document
full_of header statements = Some (document.Full (record { header = header; statements = statements }))

abbrev states : List ℕ → QualifiedName → Object → Statement
states subject predicate object = record { subject = Local subject; predicate = predicate; object = object }

abbrev property : List ℕ → List Attribute → List Piece → List Piece
property name attributes inside = opened (cim name) attributes ∷ (inside ++ (Close (cim name) ∷ []))

abbrev header_property : List ℕ → List Attribute → List Piece → List Piece
header_property name attributes inside = opened (md name) attributes ∷ (inside ++ (Close (md name) ∷ []))

abbrev text : List ℕ → List Piece
text bytes = Text bytes ∷ []

abbrev with_header : List Piece → List Piece
with_header pieces = in_header (pieces ++ (Close (md (codes "FullModel")) ∷ end_of_root ∷ []))

-- of several texts the last, of several profiles each once and in order
header_properties : model_in (with_header
    (header_property (codes "Model.profile") [] (text (codes "b")) ++ header_property (codes "Model.created") [] (text (codes "1"))
    ++ header_property (codes "Model.profile") [] (text (codes "a")) ++ header_property (codes "Model.created") [] (text (codes "2"))
    ++ header_property (codes "Model.profile") [] (text (codes "b")) ++ header_property (codes "note") [] (text (codes "x"))
    ++ header_property (codes "Model.scenarioTime") [] [] ++ header_property (codes "Model.version") [] (text (codes "v"))
    ++ header_property (codes "Model.description") [] (text (codes "d"))
    ++ header_property (codes "Model.modelingAuthoritySet") [] (text (codes "m"))))
    ≡ full_of (record bare_header {
      created = Some (codes "2");
      scenario_time = Some [];
      version = Some (codes "v");
      description = Some (codes "d");
      authority = Some (codes "m");
      profiles = codes "a" ∷ codes "b" ∷ [];
    }) []
unfolding reader_on_pieces
header_properties = refl

-- by either spelling of a UUID, in order of their numbers
linked_models : model_in (with_header
    (header_property (codes "Model.DependentOn") (resource (codes "urn:uuid:00000000-0000-0000-0000-00000000000B")) []
    ++ header_property (codes "Model.Supersedes") (resource (codes "#_" ++ uuid)) []
    ++ header_property (codes "Model.DependentOn") (resource (codes "#_00000000-0000-0000-0000-00000000000a")) []))
    ≡ full_of (record bare_header { depends = 10 ∷ 11 ∷ []; supersedes = number ∷ [] }) []
unfolding reader_on_pieces
linked_models = refl

abbrev object_pieces : QName → List Attribute → List Piece → List Piece
object_pieces name attributes inside = opened name attributes ∷ (inside ++ (Close name ∷ []))

-- an element states its class, an `rdf:Description` none; a literal is all its text; what is stated
-- twice counts once, of whichever spelling the subject is
objects : model_in (body
    (object_pieces (cim (codes "B")) (id (codes "b")) (empty (rdf (codes "type")) (resource (cim_namespace ++ codes "A")) ∷ property (codes "p") (resource (codes "#b")) [])
    ++ object_pieces (rdf (codes "Description")) (about (codes "#a")) (property (codes "p") [] (text (codes "x") ++ (Skip ∷ text (codes "y"))) ++ property (codes "q") [] [])
    ++ object_pieces (rdf (codes "Description")) (id (codes "a")) (property (codes "p") [] (text (codes "xy")))
    ++ (end_of_root ∷ [])))
    ≡ full_of bare_header
    (states (codes "a") (cim_name (codes "p")) (object.Literal (codes "xy"))
    ∷ states (codes "a") (cim_name (codes "q")) (object.Literal [])
    ∷ states (codes "b") (cim_name (codes "p")) (object.Resource (Local (codes "b")))
    ∷ states (codes "b") type_name (object.Iri (cim_namespace ++ codes "A"))
    ∷ states (codes "b") type_name (object.Iri (cim_namespace ++ codes "B"))
    ∷ [])
unfolding reader_on_pieces
objects = refl

abbrev section : List ℕ → List ℕ → List Piece
section name subject =
    opened (dm name) (is (rdf (codes "parseType")) (codes "Statements") ∷ [])
    ∷ (object_pieces (rdf (codes "Description")) (about subject) (property (codes "p") [] (text subject)) ++ (Close (dm name) ∷ []))

abbrev stated_of : List ℕ → Statement
stated_of name = states name (cim_name (codes "p")) (object.Literal (35 ∷ name))

-- sections in any order and number
sections_twice : model_in (in_difference
    (section (codes "reverseDifferences") (codes "#e") ++ section (codes "preconditions") (codes "#b")
    ++ section (codes "forwardDifferences") (codes "#d") ++ section (codes "preconditions") (codes "#a")
    ++ section (codes "forwardDifferences") (codes "#c") ++ section (codes "reverseDifferences") (codes "#f")
    ++ (Close (dm (codes "DifferenceModel")) ∷ end_of_root ∷ [])))
    ≡ Some (document.Difference (record {
      header = bare_header;
      change = record {
        pre = stated_of (codes "a") ∷ stated_of (codes "b") ∷ [];
        rev = stated_of (codes "e") ∷ stated_of (codes "f") ∷ [];
        fwd = stated_of (codes "c") ∷ stated_of (codes "d") ∷ [];
      };
    }))
unfolding reader_on_pieces
sections_twice = refl

-- ---- a document as blocks

abbrev blocks : Blocks
blocks =
    block.Skip
    (block.Element (rdf (codes "RDF")) declarations
    (block.Text (codes " ")
    (block.Empty (md (codes "FullModel")) (about (codes "urn:uuid:" ++ uuid))
    (block.Element (cim (codes "A")) (id (codes "a")) (block.Element (cim (codes "p")) [] (block.Text (codes "x") End) End) End)))
    End)

their_pieces : pieces_of blocks
    ≡ Skip ∷ root ∷ Text (codes " ") ∷ header ∷ (object_pieces (cim (codes "A")) (id (codes "a")) (property (codes "p") [] (text (codes "x"))) ++ (end_of_root ∷ []))
their_pieces = refl

they_fit : fits BeforeRoot [] blocks ≡ true
unfolding reader_on_pieces
they_fit = refl

they_are_whole : place_after BeforeRoot [] blocks ≡ AfterRoot
unfolding reader_on_pieces
they_are_whole = refl

they_count : counted BeforeRoot [] blocks ≡ record limits.nothing { statements = 2 }
unfolding reader_on_pieces
they_count = refl

they_tell : document_of (told BeforeRoot [] blocks)
    ≡ full_of bare_header
    (states (codes "a") (cim_name (codes "p")) (object.Literal (codes "x"))
    ∷ states (codes "a") type_name (object.Iri (cim_namespace ++ codes "A"))
    ∷ [])
unfolding reader_on_pieces
they_tell = refl
