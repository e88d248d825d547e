-- Worked examples of inputs, computed byte by byte.
use Rattle.std.proofs.Common.{◌≡◌, ℕ, List, [], ◌∷◌, ◌++◌, codes, true, false, Option, None, Some, refl}
use lib.Utf8.{encode}
use Rattle.nm_ident.specs.Name.{md_namespace, rdf_namespace, type_name}
use Rattle.nm_ident.specs.declared.ident.Ident.TheVariants.{Local}
use Rattle.nm_statement.specs.declared.object.Object.TheVariants as object
use Rattle.nm_statement.specs.declared.statement.Statement.{Statement}
use Rattle.nm_text.specs.Reference.{begins_name as begins_reference, referred}
use Rattle.nm_piece.specs.Mark.{cdata_at, comment_at, instruction_behind, question_at}
use Rattle.nm_piece.specs.Name.{equals_at, qname_at}
use Rattle.nm_piece.specs.Piece.{doctype_at, exclamation_at, inner_piece_at, markup_at, piece_at}
use Rattle.nm_piece.specs.Run.{begins_run, run_at, run_of}
use Rattle.nm_piece.specs.Start.{behind_encoding, behind_version, encoding_at, standalone_at, start_at, version_at}
use Rattle.nm_piece.specs.Tag.{attribute_at, close_at, inside_at, inside_within, open_at}
use Rattle.nm_piece.specs.Value.{begins_value, value_of}
use Rattle.nm_piece.specs.declared.piece.Piece.TheVariants as piece
use Rattle.nm_reader.specs.Code.{code_number, code_text}
use Rattle.nm_reader.specs.Cutting.{More, NoPiece, Unfinished}
use Rattle.nm_reader.specs.Fault.{fault_of}
use Rattle.nm_reader.specs.Input.{cut, cut_within, fault_of_input, model_of_input}
use Rattle.nm_reader.specs.declared.fault.Code.{Code}
use Rattle.nm_reader.specs.declared.fault.Code.TheVariants as code
use Rattle.nm_reader.specs.declared.fault.Fault.{Fault}
use Rattle.nm_reader.proofs.Examples.{bare_header, cim_namespace, full_of, reader_on_pieces, uuid}

-- what is opened for all of them
reader_on_bytes : Unit {0}
unfolding reader_on_pieces cut_within attribute_at begins_run begins_value behind_encoding behind_version cdata_at close_at comment_at doctype_at encoding_at equals_at exclamation_at inner_piece_at inside_at inside_within instruction_behind markup_at open_at piece_at qname_at question_at run_at run_of standalone_at start_at value_of version_at begins_reference referred encode
reader_on_bytes = tt

abbrev fault : ℕ → Code → Option Fault
fault at code = Some (record { at = at; code = code })

-- ---- how an input is cut

-- a byte order mark, a tag, and a comment that has not ended
cut_at_a_comment : cut true (0xEF ∷ 0xBB ∷ 0xBF ∷ codes "</a> <!--")
    ≡ record {
      pieces = record { piece = piece.Close (record { prefix = None; local = codes "a" }); offset = 3 }
          ∷ record { piece = piece.Text (codes " "); offset = 7 } ∷ [];
      end = 8;
      rest = Unfinished;
    }
unfolding reader_on_bytes
cut_at_a_comment = refl

-- `&` that begins no reference
cut_at_no_piece : cut true (codes "</a>&;")
    ≡ record { pieces = record { piece = piece.Close (record { prefix = None; local = codes "a" }); offset = 0 } ∷ []; end = 4; rest = NoPiece }
unfolding reader_on_bytes
cut_at_no_piece = refl

-- where more bytes follow than are read, what the last of them cut off is passed over ..
cut_by_the_limit : cut false (codes "</a> <!--")
    ≡ record {
      pieces = record { piece = piece.Close (record { prefix = None; local = codes "a" }); offset = 0 }
          ∷ record { piece = piece.Text (codes " "); offset = 4 } ∷ [];
      end = 67108864;
      rest = More;
    }
unfolding reader_on_bytes
cut_by_the_limit = refl

-- .. and their number is the fault, where nothing before it is one
past_the_limit : fault_of (cut false (codes " <!--")) ≡ fault 67108864 code.Limit
unfolding reader_on_bytes
past_the_limit = refl

no_piece_before_the_limit : fault_of (cut false (codes "&;")) ≡ fault 0 code.Piece
unfolding reader_on_bytes
no_piece_before_the_limit = refl

-- ---- faults

text_of_a_code : code_text code.Identifier ≡ codes "identifier"
text_of_a_code = refl

number_of_a_code : code_number code.Identifier ≡ 8
number_of_a_code = refl

last_number : code_number code.Cut ≡ 13
last_number = refl

no_bytes : fault_of_input [] ≡ fault 0 code.Cut
unfolding reader_on_bytes
no_bytes = refl

-- the front of a ZIP archive
archive : fault_of_input (codes "PK" ++ 3 ∷ 4 ∷ []) ≡ fault 0 code.Piece
unfolding reader_on_bytes
archive = refl

-- a byte order mark is no piece, though its bytes are counted, ..
mark_alone : fault_of_input (0xEF ∷ 0xBB ∷ 0xBF ∷ []) ≡ fault 3 code.Cut
unfolding reader_on_bytes
mark_alone = refl

-- .. a part of it is the front of a text, ..
front_of_a_mark : fault_of_input (0xEF ∷ 0xBB ∷ []) ≡ fault 0 code.Cut
unfolding reader_on_bytes
front_of_a_mark = refl

-- .. and a second one is text
two_marks : fault_of_input (0xEF ∷ 0xBB ∷ 0xBF ∷ 0xEF ∷ 0xBB ∷ 0xBF ∷ []) ≡ fault 3 code.Text
unfolding reader_on_bytes
two_marks = refl

-- a reference that the end of the input cuts off, and one that no digit makes a character
cut_reference : fault_of_input (codes "&#1114111") ≡ fault 0 code.Cut
unfolding reader_on_bytes
cut_reference = refl

no_reference : fault_of_input (codes "&#1114112") ≡ fault 0 code.Piece
unfolding reader_on_bytes
no_reference = refl

-- white space by reference and in a CDATA section is white, `]]` at the end of the input is text
white : fault_of_input (codes "&#32;&#13;<![CDATA[ ]]><a") ≡ fault 23 code.Cut
unfolding reader_on_bytes
white = refl

brackets : fault_of_input (codes " ]]") ≡ fault 0 code.Text
unfolding reader_on_bytes
brackets = refl

-- a comment of a dash, and one that has not ended
comments : fault_of_input (codes "<!--->--><!--->") ≡ fault 9 code.Cut
unfolding reader_on_bytes
comments = refl

-- a declaration behind another piece, and one that is none
late_declaration : fault_of_input (codes "<!----><?xml version='1.0'?>") ≡ fault 7 code.Stray
unfolding reader_on_bytes
late_declaration = refl

no_declaration : fault_of_input (codes "<!----><?XML?>") ≡ fault 7 code.Piece
unfolding reader_on_bytes
no_declaration = refl

cut_instruction : fault_of_input (codes "<?XML") ≡ fault 0 code.Cut
unfolding reader_on_bytes
cut_instruction = refl

abbrev tag : List ℕ
tag = codes "<r:RDF xmlns:r='" ++ rdf_namespace ++ codes "' xmlns:m='" ++ md_namespace ++ codes "'>"

-- a header that `rdf:ID` names, in a document with an empty tag and a comment
pub smallest : model_of_input (tag ++ codes "<m:FullModel r:ID=\"_" ++ uuid ++ codes "\"/><!-- x --></r:RDF>") ≡ full_of bare_header []
unfolding reader_on_bytes
smallest = refl

faultless : fault_of_input (tag ++ codes "<m:FullModel r:ID=\"_" ++ uuid ++ codes "\"/><!-- x --></r:RDF>") ≡ None
unfolding reader_on_bytes
faultless = refl

-- an `rdf:ID` is no URN
urn_as_an_id : fault_of_input (tag ++ codes "<m:FullModel r:ID='urn:uuid:" ++ uuid ++ codes "'/>") ≡ fault 120 code.Header
unfolding reader_on_bytes
urn_as_an_id = refl

-- a model of one substation, line by line, with its name's characters
abbrev with_name : List ℕ → List ℕ
with_name name =
    codes "<?xml version=\"1.0\" encoding=\"UTF-8\"?>\n"
    ++ codes "<rdf:RDF xmlns:rdf=\"http://www.w3.org/1999/02/22-rdf-syntax-ns#\" xmlns:md=\"http://iec.ch/TC57/61970-552/ModelDescription/1#\" xmlns:cim=\"http://iec.ch/TC57/2013/CIM-schema-cim16#\">\n"
    ++ codes "<md:FullModel rdf:about=\"urn:uuid:" ++ uuid ++ codes "\">\n"
    ++ codes "</md:FullModel>\n"
    ++ codes "<cim:Substation rdf:ID=\"s\">\n"
    ++ codes "<cim:IdentifiedObject.name>" ++ name ++ codes "</cim:IdentifiedObject.name>\n"
    ++ codes "</cim:Substation>\n"
    ++ codes "</rdf:RDF>\n"

abbrev named : List ℕ → List Statement
named name =
    record { subject = Local (codes "s"); predicate = record { ns = cim_namespace; local = codes "IdentifiedObject.name" }; object = object.Literal name }
    ∷ record { subject = Local (codes "s"); predicate = type_name; object = object.Iri (cim_namespace ++ codes "Substation") }
    ∷ []

pub references_in_a_name : model_of_input (with_name (codes "a&#13;b]]&gt;&quot;&#x1D11E;")) ≡ full_of bare_header (named (codes "a" ++ 13 ∷ codes "b]]>\"" ++ 0xF0 ∷ 0x9D ∷ 0x84 ∷ 0x9E ∷ []))
unfolding reader_on_bytes
references_in_a_name = refl

pub element_in_a_name : fault_of_input (with_name (codes "North<b/>")) ≡ fault 368 code.Nesting
unfolding reader_on_bytes
element_in_a_name = refl
