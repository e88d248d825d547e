-- The head of a request (RFC 9112, section 2.1), in the grammar that `httparse` states: what the lines
-- suggest, where each part is of its class and the bytes are spelt so.
use Rattle.std.specs.Prelude.{ℕ, List, [], ◌∷◌, Bool, ◌&&◌, ◌==◌, ◌-◌, length, nat_lt, nat_le, slice_index, Option, None, Some, if◌then◌else◌}
use Rattle.std.specs.List.{list_all}
use Rattle.std.specs.Str.{is_utf8}
use Rattle.httparse.specs.Grammar.{Field, LineEnd, lf, RequestHead, is_token, is_uri_byte, is_value_byte, print_request}
use Rattle.nm_terms.specs.Bytes.{same_text}
use Rattle.nm_http.specs.Lines.{Line, is_empty, lines_of}

-- what stands before the first such byte, and behind it
abbrev pub before : ℕ → List ℕ → List ℕ
before mark [] = []
before mark (byte ∷ bytes) = if byte == mark then [] else byte ∷ before mark bytes

abbrev pub behind : ℕ → List ℕ → List ℕ
behind mark [] = []
behind mark (byte ∷ bytes) = if byte == mark then bytes else behind mark bytes

-- the ends of the empty lines in front
abbrev pub blank_ends : List Line → List LineEnd
blank_ends [] = []
blank_ends (line ∷ lines) = if is_empty line.text then line.end ∷ blank_ends lines else []

-- the lines from the first that is not empty
abbrev pub from_start : List Line → List Line
from_start [] = []
from_start (line ∷ lines) = if is_empty line.text then from_start lines else line ∷ lines

-- a name, a colon and a value
abbrev pub field_of : Line → Field
field_of line = record { name = before 58 line.text; raw = behind 58 line.text; end = line.end }

-- the fields up to the first empty line, and the end of that line
abbrev pub fields_of : List Line → List Field
fields_of [] = []
fields_of (line ∷ lines) = if is_empty line.text then [] else field_of line ∷ fields_of lines

abbrev pub last_end : List Line → LineEnd
last_end [] = lf
last_end (line ∷ lines) = if is_empty line.text then line.end else last_end lines

-- the words of the first line that is not empty, and the fields behind it; the version is `HTTP/1.` and a digit
abbrev pub suggested_by : List LineEnd → List Line → RequestHead
suggested_by blank [] = record { blank = blank; method = []; target = []; minor = 0; line_end = lf; fields = []; last = lf }
suggested_by blank (line ∷ lines) = record {
  blank = blank;
  method = before 32 line.text;
  target = before 32 (behind 32 line.text);
  minor = slice_index (behind 32 (behind 32 line.text)) 7 - 48;
  line_end = line.end;
  fields = fields_of lines;
  last = last_end lines;
}

-- what the lines suggest
abbrev pub suggested : List Line → RequestHead
suggested lines = suggested_by (blank_ends lines) (from_start lines)

abbrev pub is_field : Field → Bool
is_field field = is_token field.name && list_all is_value_byte field.raw

abbrev pub is_target : List ℕ → Bool
is_target target = nat_lt 0 (length target) && list_all is_uri_byte target && is_utf8 target

-- whether each part is of its class
abbrev pub is_sound : RequestHead → Bool
is_sound head = is_token head.method && is_target head.target && nat_le head.minor 1 && list_all is_field head.fields

-- whether the bytes are this head and nothing more
abbrev pub is_head : RequestHead → List ℕ → Bool
is_head head bytes = is_sound head && same_text (print_request head) bytes

-- the head that the bytes are
unfoldable pub head_of : List ℕ → Option RequestHead
head_of bytes = if is_head (suggested (lines_of bytes)) bytes then Some (suggested (lines_of bytes)) else None
