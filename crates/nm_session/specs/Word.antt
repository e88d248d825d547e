-- Command lines, without their line feed.
use Rattle.std.specs.Prelude.{ℕ, List, take, drop, Bool, true, false, nat_eq, Option, None, Some, codes, if◌then◌else◌}
use Rattle.std.specs.List.{starts_with}
use Rattle.std.specs.Option.{is_some, option_map}
use Rattle.std.specs.Result.{result_ok}
use Rattle.nm_day.specs.Day.{day_of}
use Rattle.nm_ident.specs.Ident.{ident_of_about}
use Rattle.nm_ident.specs.UuidText.{uuid_of}
use Rattle.nm_ident.specs.declared.ident.Ident.{Ident}
use Rattle.nm_terms.specs.Bytes.{same_text}
use Rattle.nm_model.specs.Limits.{longest_document}
use Rattle.nm_session.specs.Digits.{numeral_within}
use Rattle.nm_session.specs.PlainWord.{PlainWord, Base, File, Revise, Redate, Withdraw, Assemble, Object, Timeline, Projects, Log, Summary, End}

-- the length of a document: a number within the limit on its bytes, in decimal digits without a leading zero
unfoldable pub length_of : List ℕ → Option ℕ
length_of text = numeral_within longest_document text

-- a command of two words, where both are there
abbrev pub with_both : {X Y : Type 0} → (X → Y → PlainWord) → Option X → Option Y → Option PlainWord
with_both command None second = None
with_both command (Some first) None = None
with_both command (Some first) (Some second) = Some (command first second)

-- whether a space stands behind so many bytes
abbrev pub has_space : ℕ → List ℕ → Bool
has_space count text = starts_with nat_eq (drop count text) (codes " ")

-- what stands behind so many bytes and a space
abbrev pub behind_space : ℕ → List ℕ → List ℕ
behind_space count text = drop 1 (drop count text)

-- the day, or the id, that a space stands behind
unfoldable pub day_before_space : List ℕ → Option (List ℕ)
day_before_space text = if has_space 10 text then result_ok (day_of (take 10 text)) else None

unfoldable pub id_before_space : List ℕ → Option ℕ
id_before_space text = if has_space 36 text then uuid_of (take 36 text) else None

-- a day and a length
abbrev pub file_of : List ℕ → Option PlainWord
file_of text = with_both File (day_before_space text) (length_of (behind_space 10 text))

-- an id and a length
abbrev pub revise_of : List ℕ → Option PlainWord
revise_of text = with_both Revise (id_before_space text) (length_of (behind_space 36 text))

-- an id and a day
abbrev pub redate_of : List ℕ → Option PlainWord
redate_of text = with_both Redate (id_before_space text) (result_ok (day_of (behind_space 36 text)))

-- the object that a text names, as `rdf:about` does
unfoldable pub object_named : List ℕ → Option Ident
object_named text = ident_of_about text

abbrev pub about_of : List ℕ → Option (List ℕ)
about_of text = if is_some (object_named text) then Some text else None

-- a day and an object
abbrev pub object_of : List ℕ → Option PlainWord
object_of text = with_both Object (day_before_space text) (about_of (behind_space 10 text))

-- a line that names an object
unfoldable pub object_line : List ℕ → Option PlainWord
object_line line =
    if starts_with nat_eq line (codes "object ") then object_of (drop 7 line)
    else if starts_with nat_eq line (codes "timeline ") then option_map Timeline (about_of (drop 9 line))
    else None

abbrev pub withdraw_line : List ℕ → Option PlainWord
withdraw_line line =
    if starts_with nat_eq line (codes "withdraw ") then option_map Withdraw (uuid_of (drop 9 line)) else object_line line

-- a line that names a project
unfoldable pub project_line : List ℕ → Option PlainWord
project_line line =
    if starts_with nat_eq line (codes "revise ") then revise_of (drop 7 line)
    else if starts_with nat_eq line (codes "redate ") then redate_of (drop 7 line)
    else withdraw_line line

abbrev pub file_line : List ℕ → Option PlainWord
file_line line = if starts_with nat_eq line (codes "file ") then file_of (drop 5 line) else project_line line

-- a line that names a day, or a project
unfoldable pub dated_line : List ℕ → Option PlainWord
dated_line line =
    if starts_with nat_eq line (codes "assemble ") then option_map Assemble (result_ok (day_of (drop 9 line)))
    else if starts_with nat_eq line (codes "summary ") then option_map Summary (result_ok (day_of (drop 8 line)))
    else file_line line

-- the command of a line: one word, or more with a length, a day or a project
unfoldable pub word_of : List ℕ → Option PlainWord
word_of line =
    if same_text line (codes "projects") then Some Projects
    else if same_text line (codes "log") then Some Log
    else if same_text line (codes "end") then Some End
    else if starts_with nat_eq line (codes "base ") then option_map Base (length_of (drop 5 line))
    else dated_line line

-- the bytes of the document that follows the line
abbrev pub body_length : PlainWord → ℕ
body_length (Base len) = len
body_length (File day len) = len
body_length (Revise project len) = len
body_length (Redate project day) = 0
body_length (Withdraw project) = 0
body_length (Assemble day) = 0
body_length (Object day id) = 0
body_length (Timeline id) = 0
body_length Projects = 0
body_length Log = 0
body_length (Summary day) = 0
body_length End = 0

-- the same, where the line has a length
abbrev pub length_asked : PlainWord → Option ℕ
length_asked (Base len) = Some len
length_asked (File day len) = Some len
length_asked (Revise project len) = Some len
length_asked (Redate project day) = None
length_asked (Withdraw project) = None
length_asked (Assemble day) = None
length_asked (Object day id) = None
length_asked (Timeline id) = None
length_asked Projects = None
length_asked Log = None
length_asked (Summary day) = None
length_asked End = None

-- whether the command is the last of its session
abbrev pub is_end : PlainWord → Bool
is_end (Base len) = false
is_end (File day len) = false
is_end (Revise project len) = false
is_end (Redate project day) = false
is_end (Withdraw project) = false
is_end (Assemble day) = false
is_end (Object day id) = false
is_end (Timeline id) = false
is_end Projects = false
is_end Log = false
is_end (Summary day) = false
is_end End = true

-- whether the command asks and changes nothing
abbrev pub is_query : PlainWord → Bool
is_query (Base len) = false
is_query (File day len) = false
is_query (Revise project len) = false
is_query (Redate project day) = false
is_query (Withdraw project) = false
is_query (Assemble day) = true
is_query (Object day id) = true
is_query (Timeline id) = true
is_query Projects = true
is_query Log = true
is_query (Summary day) = true
is_query End = false

-- whether a text in it names an object
abbrev pub is_named : PlainWord → Bool
is_named (Base len) = true
is_named (File day len) = true
is_named (Revise project len) = true
is_named (Redate project day) = true
is_named (Withdraw project) = true
is_named (Assemble day) = true
is_named (Object day id) = is_some (object_named id)
is_named (Timeline id) = is_some (object_named id)
is_named Projects = true
is_named Log = true
is_named (Summary day) = true
is_named End = true
