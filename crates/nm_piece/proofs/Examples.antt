-- Worked examples of pieces at the front of bytes, computed.
use Rattle.std.proofs.Common.{◌≡◌, ℕ, List, [], ◌∷◌, ◌++◌, codes, true, false, Some, None, refl, replicate}
use lib.Utf8.{encode}
use Rattle.nm_text.specs.Reference.{begins_name as begins_reference, referred}
use Rattle.nm_piece.specs.declared.piece.Attribute.{Attribute}
use Rattle.nm_piece.specs.declared.piece.Piece.TheVariants.{Start, Doctype, Open, Close, Text, Skip}
use Rattle.nm_piece.specs.declared.piece.QName.{QName}
use Rattle.nm_piece.specs.Cutting.{mark_length}
use Rattle.nm_piece.specs.Laws.{given, no_piece, unfinished}
use Rattle.nm_piece.specs.Mark.{cdata_at, comment_at, instruction_behind, question_at}
use Rattle.nm_piece.specs.Name.{equals_at, qname_at}
use Rattle.nm_piece.specs.Piece.{doctype_at, exclamation_at, inner_piece_at, markup_at, piece_at}
use Rattle.nm_piece.specs.Run.{begins_run, run_at, run_of}
use Rattle.nm_piece.specs.Start.{behind_encoding, behind_version, encoding_at, standalone_at, start_at, version_at}
use Rattle.nm_piece.specs.Tag.{attribute_at, close_at, inside_at, inside_within, open_at}
use Rattle.nm_piece.specs.Value.{begins_value, value_of}

abbrev name : List ℕ → QName
name local = record { prefix = None; local = local }

abbrev prefixed : List ℕ → List ℕ → QName
prefixed prefix local = record { prefix = Some prefix; local = local }

abbrev attribute : QName → List ℕ → Attribute
attribute name value = record { name = name; value = value }

-- ---- the XML declaration

version_alone : piece_at (codes "<?xml version=\"1.0\"?><a>") true ≡ given (Start None) (codes "<a>")
unfolding attribute_at begins_run begins_value behind_encoding behind_version cdata_at close_at comment_at doctype_at encoding_at equals_at exclamation_at inner_piece_at inside_at inside_within instruction_behind markup_at open_at piece_at qname_at question_at run_at run_of standalone_at start_at value_of version_at begins_reference referred encode
version_alone = refl

all_settings : piece_at (codes "<?xml version='1.0' encoding = \"UTF-8\" standalone='yes' ?>") true ≡ given (Start (Some (codes "UTF-8"))) []
unfolding attribute_at begins_run begins_value behind_encoding behind_version cdata_at close_at comment_at doctype_at encoding_at equals_at exclamation_at inner_piece_at inside_at inside_within instruction_behind markup_at open_at piece_at qname_at question_at run_at run_of standalone_at start_at value_of version_at begins_reference referred encode
all_settings = refl

standalone_alone : piece_at (codes "<?xml version='1.0' standalone='no'?>") true ≡ given (Start None) []
unfolding attribute_at begins_run begins_value behind_encoding behind_version cdata_at close_at comment_at doctype_at encoding_at equals_at exclamation_at inner_piece_at inside_at inside_within instruction_behind markup_at open_at piece_at qname_at question_at run_at run_of standalone_at start_at value_of version_at begins_reference referred encode
standalone_alone = refl

other_version : piece_at (codes "<?xml version=\"1.1\"?>") true ≡ no_piece
unfolding attribute_at begins_run begins_value behind_encoding behind_version cdata_at close_at comment_at doctype_at encoding_at equals_at exclamation_at inner_piece_at inside_at inside_within instruction_behind markup_at open_at piece_at qname_at question_at run_at run_of standalone_at start_at value_of version_at begins_reference referred encode
other_version = refl

no_version : piece_at (codes "<?xml encoding=\"UTF-8\"?>") true ≡ no_piece
unfolding attribute_at begins_run begins_value behind_encoding behind_version cdata_at close_at comment_at doctype_at encoding_at equals_at exclamation_at inner_piece_at inside_at inside_within instruction_behind markup_at open_at piece_at qname_at question_at run_at run_of standalone_at start_at value_of version_at begins_reference referred encode
no_version = refl

other_order : piece_at (codes "<?xml version=\"1.0\" standalone=\"yes\" encoding=\"UTF-8\"?>") true ≡ no_piece
unfolding attribute_at begins_run begins_value behind_encoding behind_version cdata_at close_at comment_at doctype_at encoding_at equals_at exclamation_at inner_piece_at inside_at inside_within instruction_behind markup_at open_at piece_at qname_at question_at run_at run_of standalone_at start_at value_of version_at begins_reference referred encode
other_order = refl

no_white_between : piece_at (codes "<?xml version=\"1.0\"encoding=\"UTF-8\"?>") true ≡ no_piece
unfolding attribute_at begins_run begins_value behind_encoding behind_version cdata_at close_at comment_at doctype_at encoding_at equals_at exclamation_at inner_piece_at inside_at inside_within instruction_behind markup_at open_at piece_at qname_at question_at run_at run_of standalone_at start_at value_of version_at begins_reference referred encode
no_white_between = refl

other_quote : piece_at (codes "<?xml version=\"1.0' encoding=\"UTF-8\"?>") true ≡ no_piece
unfolding attribute_at begins_run begins_value behind_encoding behind_version cdata_at close_at comment_at doctype_at encoding_at equals_at exclamation_at inner_piece_at inside_at inside_within instruction_behind markup_at open_at piece_at qname_at question_at run_at run_of standalone_at start_at value_of version_at begins_reference referred encode
other_quote = refl

neither_yes_nor_no : piece_at (codes "<?xml version=\"1.0\" standalone=\"maybe\"?>") true ≡ no_piece
unfolding attribute_at begins_run begins_value behind_encoding behind_version cdata_at close_at comment_at doctype_at encoding_at equals_at exclamation_at inner_piece_at inside_at inside_within instruction_behind markup_at open_at piece_at qname_at question_at run_at run_of standalone_at start_at value_of version_at begins_reference referred encode
neither_yes_nor_no = refl

longest_encoding : piece_at (codes "<?xml version='1.0' encoding='" ++ replicate 40 65 ++ codes "'?>") true ≡ given (Start (Some (replicate 40 65))) []
unfolding attribute_at begins_run begins_value behind_encoding behind_version cdata_at close_at comment_at doctype_at encoding_at equals_at exclamation_at inner_piece_at inside_at inside_within instruction_behind markup_at open_at piece_at qname_at question_at run_at run_of standalone_at start_at value_of version_at begins_reference referred encode
longest_encoding = refl

longer_encoding : piece_at (codes "<?xml version='1.0' encoding='" ++ replicate 41 65 ++ codes "'?>") true ≡ no_piece
unfolding attribute_at begins_run begins_value behind_encoding behind_version cdata_at close_at comment_at doctype_at encoding_at equals_at exclamation_at inner_piece_at inside_at inside_within instruction_behind markup_at open_at piece_at qname_at question_at run_at run_of standalone_at start_at value_of version_at begins_reference referred encode
longer_encoding = refl

encoding_of_a_digit : piece_at (codes "<?xml version=\"1.0\" encoding=\"8\"?>") true ≡ no_piece
unfolding attribute_at begins_run begins_value behind_encoding behind_version cdata_at close_at comment_at doctype_at encoding_at equals_at exclamation_at inner_piece_at inside_at inside_within instruction_behind markup_at open_at piece_at qname_at question_at run_at run_of standalone_at start_at value_of version_at begins_reference referred encode
encoding_of_a_digit = refl

no_settings : piece_at (codes "<?xml?>") true ≡ no_piece
unfolding attribute_at begins_run begins_value behind_encoding behind_version cdata_at close_at comment_at doctype_at encoding_at equals_at exclamation_at inner_piece_at inside_at inside_within instruction_behind markup_at open_at piece_at qname_at question_at run_at run_of standalone_at start_at value_of version_at begins_reference referred encode
no_settings = refl

declaration_begins : piece_at (codes "<?xml version=\"1.0\" enc") true ≡ unfinished
unfolding attribute_at begins_run begins_value behind_encoding behind_version cdata_at close_at comment_at doctype_at encoding_at equals_at exclamation_at inner_piece_at inside_at inside_within instruction_behind markup_at open_at piece_at qname_at question_at run_at run_of standalone_at start_at value_of version_at begins_reference referred encode
declaration_begins = refl

-- ---- the document type

doctype : piece_at (codes "<!DOCTYPE rdf") true ≡ given (Doctype) (codes " rdf")
unfolding attribute_at begins_run begins_value behind_encoding behind_version cdata_at close_at comment_at doctype_at encoding_at equals_at exclamation_at inner_piece_at inside_at inside_within instruction_behind markup_at open_at piece_at qname_at question_at run_at run_of standalone_at start_at value_of version_at begins_reference referred encode
doctype = refl

doctype_begins : piece_at (codes "<!DOCTYP") true ≡ unfinished
unfolding attribute_at begins_run begins_value behind_encoding behind_version cdata_at close_at comment_at doctype_at encoding_at equals_at exclamation_at inner_piece_at inside_at inside_within instruction_behind markup_at open_at piece_at qname_at question_at run_at run_of standalone_at start_at value_of version_at begins_reference referred encode
doctype_begins = refl

small_doctype : piece_at (codes "<!doctype") true ≡ no_piece
unfolding attribute_at begins_run begins_value behind_encoding behind_version cdata_at close_at comment_at doctype_at encoding_at equals_at exclamation_at inner_piece_at inside_at inside_within instruction_behind markup_at open_at piece_at qname_at question_at run_at run_of standalone_at start_at value_of version_at begins_reference referred encode
small_doctype = refl

-- ---- start tags

start_tag : piece_at (codes "<a>b") true ≡ given (Open (name (codes "a")) [] false) (codes "b")
unfolding attribute_at begins_run begins_value behind_encoding behind_version cdata_at close_at comment_at doctype_at encoding_at equals_at exclamation_at inner_piece_at inside_at inside_within instruction_behind markup_at open_at piece_at qname_at question_at run_at run_of standalone_at start_at value_of version_at begins_reference referred encode
start_tag = refl

empty_element : piece_at (codes "<cim:Line/>") true ≡ given (Open (prefixed (codes "cim") (codes "Line")) [] true) []
unfolding attribute_at begins_run begins_value behind_encoding behind_version cdata_at close_at comment_at doctype_at encoding_at equals_at exclamation_at inner_piece_at inside_at inside_within instruction_behind markup_at open_at piece_at qname_at question_at run_at run_of standalone_at start_at value_of version_at begins_reference referred encode
empty_element = refl

attributes : piece_at (codes "<a rdf:ID = '&lt;b' c=\"'\"\n>") true ≡ given (Open (name (codes "a")) (attribute (prefixed (codes "rdf") (codes "ID")) (codes "<b") ∷ attribute (name (codes "c")) (codes "'") ∷ []) false) []
unfolding attribute_at begins_run begins_value behind_encoding behind_version cdata_at close_at comment_at doctype_at encoding_at equals_at exclamation_at inner_piece_at inside_at inside_within instruction_behind markup_at open_at piece_at qname_at question_at run_at run_of standalone_at start_at value_of version_at begins_reference referred encode
attributes = refl

same_name_twice : piece_at (codes "<a b='1' b='2'/>") true ≡ given (Open (name (codes "a")) (attribute (name (codes "b")) (codes "1") ∷ attribute (name (codes "b")) (codes "2") ∷ []) true) []
unfolding attribute_at begins_run begins_value behind_encoding behind_version cdata_at close_at comment_at doctype_at encoding_at equals_at exclamation_at inner_piece_at inside_at inside_within instruction_behind markup_at open_at piece_at qname_at question_at run_at run_of standalone_at start_at value_of version_at begins_reference referred encode
same_name_twice = refl

white_in_value : piece_at (codes "<a b='1" ++ 13 ∷ 10 ∷ 9 ∷ 10 ∷ 13 ∷ codes "&#13;'>") true ≡ given (Open (name (codes "a")) (attribute (name (codes "b")) (49 ∷ 32 ∷ 32 ∷ 32 ∷ 32 ∷ 13 ∷ []) ∷ []) false) []
unfolding attribute_at begins_run begins_value behind_encoding behind_version cdata_at close_at comment_at doctype_at encoding_at equals_at exclamation_at inner_piece_at inside_at inside_within instruction_behind markup_at open_at piece_at qname_at question_at run_at run_of standalone_at start_at value_of version_at begins_reference referred encode
white_in_value = refl

white_before_name : piece_at (codes "< a>") true ≡ no_piece
unfolding attribute_at begins_run begins_value behind_encoding behind_version cdata_at close_at comment_at doctype_at encoding_at equals_at exclamation_at inner_piece_at inside_at inside_within instruction_behind markup_at open_at piece_at qname_at question_at run_at run_of standalone_at start_at value_of version_at begins_reference referred encode
white_before_name = refl

white_in_the_end : piece_at (codes "<a / >") true ≡ no_piece
unfolding attribute_at begins_run begins_value behind_encoding behind_version cdata_at close_at comment_at doctype_at encoding_at equals_at exclamation_at inner_piece_at inside_at inside_within instruction_behind markup_at open_at piece_at qname_at question_at run_at run_of standalone_at start_at value_of version_at begins_reference referred encode
white_in_the_end = refl

attributes_side_by_side : piece_at (codes "<a b=\"1\"c=\"2\">") true ≡ no_piece
unfolding attribute_at begins_run begins_value behind_encoding behind_version cdata_at close_at comment_at doctype_at encoding_at equals_at exclamation_at inner_piece_at inside_at inside_within instruction_behind markup_at open_at piece_at qname_at question_at run_at run_of standalone_at start_at value_of version_at begins_reference referred encode
attributes_side_by_side = refl

tag_in_value : piece_at (codes "<a b=\"<\">") true ≡ no_piece
unfolding attribute_at begins_run begins_value behind_encoding behind_version cdata_at close_at comment_at doctype_at encoding_at equals_at exclamation_at inner_piece_at inside_at inside_within instruction_behind markup_at open_at piece_at qname_at question_at run_at run_of standalone_at start_at value_of version_at begins_reference referred encode
tag_in_value = refl

stray_ampersand_in_value : piece_at (codes "<a b=\"c & d\">") true ≡ no_piece
unfolding attribute_at begins_run begins_value behind_encoding behind_version cdata_at close_at comment_at doctype_at encoding_at equals_at exclamation_at inner_piece_at inside_at inside_within instruction_behind markup_at open_at piece_at qname_at question_at run_at run_of standalone_at start_at value_of version_at begins_reference referred encode
stray_ampersand_in_value = refl

open_value : piece_at (codes "<a b=\"1'>") true ≡ unfinished
unfolding attribute_at begins_run begins_value behind_encoding behind_version cdata_at close_at comment_at doctype_at encoding_at equals_at exclamation_at inner_piece_at inside_at inside_within instruction_behind markup_at open_at piece_at qname_at question_at run_at run_of standalone_at start_at value_of version_at begins_reference referred encode
open_value = refl

unquoted_value : piece_at (codes "<a b=1>") true ≡ no_piece
unfolding attribute_at begins_run begins_value behind_encoding behind_version cdata_at close_at comment_at doctype_at encoding_at equals_at exclamation_at inner_piece_at inside_at inside_within instruction_behind markup_at open_at piece_at qname_at question_at run_at run_of standalone_at start_at value_of version_at begins_reference referred encode
unquoted_value = refl

two_colons : piece_at (codes "<a:b:c>") true ≡ no_piece
unfolding attribute_at begins_run begins_value behind_encoding behind_version cdata_at close_at comment_at doctype_at encoding_at equals_at exclamation_at inner_piece_at inside_at inside_within instruction_behind markup_at open_at piece_at qname_at question_at run_at run_of standalone_at start_at value_of version_at begins_reference referred encode
two_colons = refl

digit_first : piece_at (codes "<1a>") true ≡ no_piece
unfolding attribute_at begins_run begins_value behind_encoding behind_version cdata_at close_at comment_at doctype_at encoding_at equals_at exclamation_at inner_piece_at inside_at inside_within instruction_behind markup_at open_at piece_at qname_at question_at run_at run_of standalone_at start_at value_of version_at begins_reference referred encode
digit_first = refl

longest_name : piece_at (60 ∷ replicate 128 97 ++ codes ">") true ≡ given (Open (name (replicate 128 97)) [] false) []
unfolding attribute_at begins_run begins_value behind_encoding behind_version cdata_at close_at comment_at doctype_at encoding_at equals_at exclamation_at inner_piece_at inside_at inside_within instruction_behind markup_at open_at piece_at qname_at question_at run_at run_of standalone_at start_at value_of version_at begins_reference referred encode
longest_name = refl

longer_name : piece_at (60 ∷ replicate 129 97 ++ codes ">") true ≡ no_piece
unfolding attribute_at begins_run begins_value behind_encoding behind_version cdata_at close_at comment_at doctype_at encoding_at equals_at exclamation_at inner_piece_at inside_at inside_within instruction_behind markup_at open_at piece_at qname_at question_at run_at run_of standalone_at start_at value_of version_at begins_reference referred encode
longer_name = refl

longer_name_begins : piece_at (60 ∷ replicate 129 97) true ≡ no_piece
unfolding attribute_at begins_run begins_value behind_encoding behind_version cdata_at close_at comment_at doctype_at encoding_at equals_at exclamation_at inner_piece_at inside_at inside_within instruction_behind markup_at open_at piece_at qname_at question_at run_at run_of standalone_at start_at value_of version_at begins_reference referred encode
longer_name_begins = refl

name_begins : piece_at (60 ∷ replicate 128 97) true ≡ unfinished
unfolding attribute_at begins_run begins_value behind_encoding behind_version cdata_at close_at comment_at doctype_at encoding_at equals_at exclamation_at inner_piece_at inside_at inside_within instruction_behind markup_at open_at piece_at qname_at question_at run_at run_of standalone_at start_at value_of version_at begins_reference referred encode
name_begins = refl

-- ---- end tags

end_tag : piece_at (codes "</cim:Line \n>") true ≡ given (Close (prefixed (codes "cim") (codes "Line"))) []
unfolding attribute_at begins_run begins_value behind_encoding behind_version cdata_at close_at comment_at doctype_at encoding_at equals_at exclamation_at inner_piece_at inside_at inside_within instruction_behind markup_at open_at piece_at qname_at question_at run_at run_of standalone_at start_at value_of version_at begins_reference referred encode
end_tag = refl

white_before_closing_name : piece_at (codes "</ a>") true ≡ no_piece
unfolding attribute_at begins_run begins_value behind_encoding behind_version cdata_at close_at comment_at doctype_at encoding_at equals_at exclamation_at inner_piece_at inside_at inside_within instruction_behind markup_at open_at piece_at qname_at question_at run_at run_of standalone_at start_at value_of version_at begins_reference referred encode
white_before_closing_name = refl

closing_attribute : piece_at (codes "</a b=\"1\">") true ≡ no_piece
unfolding attribute_at begins_run begins_value behind_encoding behind_version cdata_at close_at comment_at doctype_at encoding_at equals_at exclamation_at inner_piece_at inside_at inside_within instruction_behind markup_at open_at piece_at qname_at question_at run_at run_of standalone_at start_at value_of version_at begins_reference referred encode
closing_attribute = refl

-- ---- comments

comment : piece_at (codes "<!-- a - b -->c") true ≡ given (Skip) (codes "c")
unfolding attribute_at begins_run begins_value behind_encoding behind_version cdata_at close_at comment_at doctype_at encoding_at equals_at exclamation_at inner_piece_at inside_at inside_within instruction_behind markup_at open_at piece_at qname_at question_at run_at run_of standalone_at start_at value_of version_at begins_reference referred encode
comment = refl

shortest_comment : piece_at (codes "<!---->") true ≡ given (Skip) []
unfolding attribute_at begins_run begins_value behind_encoding behind_version cdata_at close_at comment_at doctype_at encoding_at equals_at exclamation_at inner_piece_at inside_at inside_within instruction_behind markup_at open_at piece_at qname_at question_at run_at run_of standalone_at start_at value_of version_at begins_reference referred encode
shortest_comment = refl

dash_and_end : piece_at (codes "<!--->") true ≡ unfinished
unfolding attribute_at begins_run begins_value behind_encoding behind_version cdata_at close_at comment_at doctype_at encoding_at equals_at exclamation_at inner_piece_at inside_at inside_within instruction_behind markup_at open_at piece_at qname_at question_at run_at run_of standalone_at start_at value_of version_at begins_reference referred encode
dash_and_end = refl

end_alone : piece_at (codes "<!-->") true ≡ unfinished
unfolding attribute_at begins_run begins_value behind_encoding behind_version cdata_at close_at comment_at doctype_at encoding_at equals_at exclamation_at inner_piece_at inside_at inside_within instruction_behind markup_at open_at piece_at qname_at question_at run_at run_of standalone_at start_at value_of version_at begins_reference referred encode
end_alone = refl

end_in_comment : piece_at (codes "<!--->-->") true ≡ given (Skip) []
unfolding attribute_at begins_run begins_value behind_encoding behind_version cdata_at close_at comment_at doctype_at encoding_at equals_at exclamation_at inner_piece_at inside_at inside_within instruction_behind markup_at open_at piece_at qname_at question_at run_at run_of standalone_at start_at value_of version_at begins_reference referred encode
end_in_comment = refl

two_dashes_inside : piece_at (codes "<!-- a -- b -->") true ≡ no_piece
unfolding attribute_at begins_run begins_value behind_encoding behind_version cdata_at close_at comment_at doctype_at encoding_at equals_at exclamation_at inner_piece_at inside_at inside_within instruction_behind markup_at open_at piece_at qname_at question_at run_at run_of standalone_at start_at value_of version_at begins_reference referred encode
two_dashes_inside = refl

dash_before_end : piece_at (codes "<!-- a --->") true ≡ no_piece
unfolding attribute_at begins_run begins_value behind_encoding behind_version cdata_at close_at comment_at doctype_at encoding_at equals_at exclamation_at inner_piece_at inside_at inside_within instruction_behind markup_at open_at piece_at qname_at question_at run_at run_of standalone_at start_at value_of version_at begins_reference referred encode
dash_before_end = refl

control_in_comment : piece_at (codes "<!--" ++ 1 ∷ codes "-->") true ≡ no_piece
unfolding attribute_at begins_run begins_value behind_encoding behind_version cdata_at close_at comment_at doctype_at encoding_at equals_at exclamation_at inner_piece_at inside_at inside_within instruction_behind markup_at open_at piece_at qname_at question_at run_at run_of standalone_at start_at value_of version_at begins_reference referred encode
control_in_comment = refl

-- ---- instructions

instruction : piece_at (codes "<?a b?c?>d?>") true ≡ given (Skip) (codes "d?>")
unfolding attribute_at begins_run begins_value behind_encoding behind_version cdata_at close_at comment_at doctype_at encoding_at equals_at exclamation_at inner_piece_at inside_at inside_within instruction_behind markup_at open_at piece_at qname_at question_at run_at run_of standalone_at start_at value_of version_at begins_reference referred encode
instruction = refl

instruction_alone : piece_at (codes "<?a?>") true ≡ given (Skip) []
unfolding attribute_at begins_run begins_value behind_encoding behind_version cdata_at close_at comment_at doctype_at encoding_at equals_at exclamation_at inner_piece_at inside_at inside_within instruction_behind markup_at open_at piece_at qname_at question_at run_at run_of standalone_at start_at value_of version_at begins_reference referred encode
instruction_alone = refl

longer_than_xml : piece_at (codes "<?xml-stylesheet href=\"a\"?>") true ≡ given (Skip) []
unfolding attribute_at begins_run begins_value behind_encoding behind_version cdata_at close_at comment_at doctype_at encoding_at equals_at exclamation_at inner_piece_at inside_at inside_within instruction_behind markup_at open_at piece_at qname_at question_at run_at run_of standalone_at start_at value_of version_at begins_reference referred encode
longer_than_xml = refl

reserved_name : piece_at (codes "<?XmL a?>") true ≡ no_piece
unfolding attribute_at begins_run begins_value behind_encoding behind_version cdata_at close_at comment_at doctype_at encoding_at equals_at exclamation_at inner_piece_at inside_at inside_within instruction_behind markup_at open_at piece_at qname_at question_at run_at run_of standalone_at start_at value_of version_at begins_reference referred encode
reserved_name = refl

reserved_name_goes_on : piece_at (codes "<?XML") true ≡ unfinished
unfolding attribute_at begins_run begins_value behind_encoding behind_version cdata_at close_at comment_at doctype_at encoding_at equals_at exclamation_at inner_piece_at inside_at inside_within instruction_behind markup_at open_at piece_at qname_at question_at run_at run_of standalone_at start_at value_of version_at begins_reference referred encode
reserved_name_goes_on = refl

name_with_prefix : piece_at (codes "<?a:b?>") true ≡ no_piece
unfolding attribute_at begins_run begins_value behind_encoding behind_version cdata_at close_at comment_at doctype_at encoding_at equals_at exclamation_at inner_piece_at inside_at inside_within instruction_behind markup_at open_at piece_at qname_at question_at run_at run_of standalone_at start_at value_of version_at begins_reference referred encode
name_with_prefix = refl

no_name : piece_at (codes "<? a?>") true ≡ no_piece
unfolding attribute_at begins_run begins_value behind_encoding behind_version cdata_at close_at comment_at doctype_at encoding_at equals_at exclamation_at inner_piece_at inside_at inside_within instruction_behind markup_at open_at piece_at qname_at question_at run_at run_of standalone_at start_at value_of version_at begins_reference referred encode
no_name = refl

-- ---- CDATA sections

cdata : piece_at (codes "<![CDATA[<a>&b;]]>c") true ≡ given (Text (codes "<a>&b;")) (codes "c")
unfolding attribute_at begins_run begins_value behind_encoding behind_version cdata_at close_at comment_at doctype_at encoding_at equals_at exclamation_at inner_piece_at inside_at inside_within instruction_behind markup_at open_at piece_at qname_at question_at run_at run_of standalone_at start_at value_of version_at begins_reference referred encode
cdata = refl

first_end : piece_at (codes "<![CDATA[a]]>b]]>") true ≡ given (Text (codes "a")) (codes "b]]>")
unfolding attribute_at begins_run begins_value behind_encoding behind_version cdata_at close_at comment_at doctype_at encoding_at equals_at exclamation_at inner_piece_at inside_at inside_within instruction_behind markup_at open_at piece_at qname_at question_at run_at run_of standalone_at start_at value_of version_at begins_reference referred encode
first_end = refl

brackets_inside : piece_at (codes "<![CDATA[a]]b]]]>") true ≡ given (Text (codes "a]]b]")) []
unfolding attribute_at begins_run begins_value behind_encoding behind_version cdata_at close_at comment_at doctype_at encoding_at equals_at exclamation_at inner_piece_at inside_at inside_within instruction_behind markup_at open_at piece_at qname_at question_at run_at run_of standalone_at start_at value_of version_at begins_reference referred encode
brackets_inside = refl

empty_cdata : piece_at (codes "<![CDATA[]]>") true ≡ given (Text []) []
unfolding attribute_at begins_run begins_value behind_encoding behind_version cdata_at close_at comment_at doctype_at encoding_at equals_at exclamation_at inner_piece_at inside_at inside_within instruction_behind markup_at open_at piece_at qname_at question_at run_at run_of standalone_at start_at value_of version_at begins_reference referred encode
empty_cdata = refl

line_ends_in_cdata : piece_at (codes "<![CDATA[" ++ 13 ∷ 10 ∷ 13 ∷ codes "&#13;]]>") true ≡ given (Text (10 ∷ 10 ∷ codes "&#13;")) []
unfolding attribute_at begins_run begins_value behind_encoding behind_version cdata_at close_at comment_at doctype_at encoding_at equals_at exclamation_at inner_piece_at inside_at inside_within instruction_behind markup_at open_at piece_at qname_at question_at run_at run_of standalone_at start_at value_of version_at begins_reference referred encode
line_ends_in_cdata = refl

cdata_begins : piece_at (codes "<![CDATA[a]]") true ≡ unfinished
unfolding attribute_at begins_run begins_value behind_encoding behind_version cdata_at close_at comment_at doctype_at encoding_at equals_at exclamation_at inner_piece_at inside_at inside_within instruction_behind markup_at open_at piece_at qname_at question_at run_at run_of standalone_at start_at value_of version_at begins_reference referred encode
cdata_begins = refl

-- ---- runs of text

run : piece_at (codes "a&amp;b<c>") true ≡ given (Text (codes "a&b")) (codes "<c>")
unfolding attribute_at begins_run begins_value behind_encoding behind_version cdata_at close_at comment_at doctype_at encoding_at equals_at exclamation_at inner_piece_at inside_at inside_within instruction_behind markup_at open_at piece_at qname_at question_at run_at run_of standalone_at start_at value_of version_at begins_reference referred encode
run = refl

last_run : piece_at (codes "a]]") true ≡ given (Text (codes "a]]")) []
unfolding attribute_at begins_run begins_value behind_encoding behind_version cdata_at close_at comment_at doctype_at encoding_at equals_at exclamation_at inner_piece_at inside_at inside_within instruction_behind markup_at open_at piece_at qname_at question_at run_at run_of standalone_at start_at value_of version_at begins_reference referred encode
last_run = refl

run_that_may_go_on : piece_at (codes "a]]") false ≡ unfinished
unfolding attribute_at begins_run begins_value behind_encoding behind_version cdata_at close_at comment_at doctype_at encoding_at equals_at exclamation_at inner_piece_at inside_at inside_within instruction_behind markup_at open_at piece_at qname_at question_at run_at run_of standalone_at start_at value_of version_at begins_reference referred encode
run_that_may_go_on = refl

line_ends_in_run : piece_at (13 ∷ 10 ∷ 13 ∷ codes "&#13;<") true ≡ given (Text (10 ∷ 10 ∷ 13 ∷ [])) (codes "<")
unfolding attribute_at begins_run begins_value behind_encoding behind_version cdata_at close_at comment_at doctype_at encoding_at equals_at exclamation_at inner_piece_at inside_at inside_within instruction_behind markup_at open_at piece_at qname_at question_at run_at run_of standalone_at start_at value_of version_at begins_reference referred encode
line_ends_in_run = refl

end_of_cdata_in_run : piece_at (codes "a]]>b<") true ≡ no_piece
unfolding attribute_at begins_run begins_value behind_encoding behind_version cdata_at close_at comment_at doctype_at encoding_at equals_at exclamation_at inner_piece_at inside_at inside_within instruction_behind markup_at open_at piece_at qname_at question_at run_at run_of standalone_at start_at value_of version_at begins_reference referred encode
end_of_cdata_in_run = refl

stray_ampersand : piece_at (codes "a&b;<") true ≡ no_piece
unfolding attribute_at begins_run begins_value behind_encoding behind_version cdata_at close_at comment_at doctype_at encoding_at equals_at exclamation_at inner_piece_at inside_at inside_within instruction_behind markup_at open_at piece_at qname_at question_at run_at run_of standalone_at start_at value_of version_at begins_reference referred encode
stray_ampersand = refl

reference_cut : piece_at (codes "a&am") true ≡ unfinished
unfolding attribute_at begins_run begins_value behind_encoding behind_version cdata_at close_at comment_at doctype_at encoding_at equals_at exclamation_at inner_piece_at inside_at inside_within instruction_behind markup_at open_at piece_at qname_at question_at run_at run_of standalone_at start_at value_of version_at begins_reference referred encode
reference_cut = refl

highest_number_cut : piece_at (codes "&#01114111") true ≡ unfinished
unfolding attribute_at begins_run begins_value behind_encoding behind_version cdata_at close_at comment_at doctype_at encoding_at equals_at exclamation_at inner_piece_at inside_at inside_within instruction_behind markup_at open_at piece_at qname_at question_at run_at run_of standalone_at start_at value_of version_at begins_reference referred encode
highest_number_cut = refl

number_cut_too_high : piece_at (codes "&#1114112") true ≡ no_piece
unfolding attribute_at begins_run begins_value behind_encoding behind_version cdata_at close_at comment_at doctype_at encoding_at equals_at exclamation_at inner_piece_at inside_at inside_within instruction_behind markup_at open_at piece_at qname_at question_at run_at run_of standalone_at start_at value_of version_at begins_reference referred encode
number_cut_too_high = refl

mark_cut : piece_at (0xEF ∷ 0xBB ∷ []) true ≡ unfinished
unfolding attribute_at begins_run begins_value behind_encoding behind_version cdata_at close_at comment_at doctype_at encoding_at equals_at exclamation_at inner_piece_at inside_at inside_within instruction_behind markup_at open_at piece_at qname_at question_at run_at run_of standalone_at start_at value_of version_at begins_reference referred encode
mark_cut = refl

surrogate : piece_at (0xED ∷ 0xA0 ∷ []) true ≡ no_piece
unfolding attribute_at begins_run begins_value behind_encoding behind_version cdata_at close_at comment_at doctype_at encoding_at equals_at exclamation_at inner_piece_at inside_at inside_within instruction_behind markup_at open_at piece_at qname_at question_at run_at run_of standalone_at start_at value_of version_at begins_reference referred encode
surrogate = refl

nothing : piece_at ([]) true ≡ unfinished
unfolding attribute_at begins_run begins_value behind_encoding behind_version cdata_at close_at comment_at doctype_at encoding_at equals_at exclamation_at inner_piece_at inside_at inside_within instruction_behind markup_at open_at piece_at qname_at question_at run_at run_of standalone_at start_at value_of version_at begins_reference referred encode
nothing = refl

-- ---- byte order marks

mark_first : mark_length (0xEF ∷ 0xBB ∷ 0xBF ∷ codes "<a/>") ≡ 3
mark_first = refl

mark_cut_short : mark_length (0xEF ∷ 0xBB ∷ []) ≡ 0
mark_cut_short = refl

mark_not_first : mark_length (32 ∷ 0xEF ∷ 0xBB ∷ 0xBF ∷ []) ≡ 0
mark_not_first = refl

-- behind a mark, a second one is text
second_mark : piece_at (0xEF ∷ 0xBB ∷ 0xBF ∷ codes "<a/>") true ≡ given (Text (0xEF ∷ 0xBB ∷ 0xBF ∷ [])) (codes "<a/>")
unfolding piece_at inner_piece_at markup_at run_at run_of referred encode
second_mark = refl
