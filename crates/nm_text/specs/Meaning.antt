-- What a text between tags, a CDATA section and an attribute's value stand for (XML 1.0, sections 2.7,
-- 2.11, 3.3.3 and 4.4). A character that comes from a reference is kept as it is.
use Rattle.std.specs.Prelude.{ℕ, List, Bool, ◌&&◌, ◌||◌, ◌==◌, Option, map, if◌then◌else◌}
use Rattle.nm_text.specs.LineEnds.{begins_with_line_feed, normal_lines}
use Rattle.nm_text.specs.Reference.{without_references}
use Rattle.nm_text.specs.White.{is_white}
use Rattle.nm_text.specs.declared.meaning.Form.{Form}
use Rattle.nm_text.specs.declared.meaning.Form.TheVariants.{Plain, Run, Value}

-- ends of lines as LF, and then references as their characters
abbrev pub run_text : List ℕ → Option (List ℕ)
run_text bytes = without_references (normal_lines bytes)

-- ends of lines as LF
abbrev pub cdata_text : List ℕ → List ℕ
cdata_text = normal_lines

abbrev pub white_as_space : ℕ → ℕ
white_as_space byte = if is_white byte then 0x20 else byte

-- ends of lines, and every other white byte, as a space
abbrev pub with_spaces : List ℕ → List ℕ
with_spaces bytes = map white_as_space (normal_lines bytes)

-- the same, and then references as their characters
abbrev pub attribute_value : List ℕ → Option (List ℕ)
attribute_value bytes = without_references (with_spaces bytes)

-- what is done before references are read
abbrev pub prepared : Form → List ℕ → List ℕ
prepared Plain bytes = bytes
prepared Run bytes = normal_lines bytes
prepared Value bytes = with_spaces bytes

abbrev pub meaning_of : Form → List ℕ → Option (List ℕ)
meaning_of form bytes = without_references (prepared form bytes)

-- whether the byte is the CR of CR LF
abbrev pub is_before_line_feed : ℕ → List ℕ → Bool
is_before_line_feed byte bytes = (byte == 13) && begins_with_line_feed bytes

-- whether the byte is white space that is no space
abbrev pub is_other_white : ℕ → Bool
is_other_white byte = (byte == 0x9) || (byte == 0xA) || (byte == 0xD)
