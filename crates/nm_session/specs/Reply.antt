-- The texts of replies.
use Rattle.std.specs.Prelude.{ℕ, List, [], ◌∷◌, ◌++◌, length, codes}
use Rattle.std.specs.Fmt.{decimal}
use Rattle.std.specs.List.{flat_map}
use Rattle.nm_base.specs.declared.outcome.Limit.{Limit}
use Rattle.nm_base.specs.declared.outcome.Limit.TheVariants.{L1, L2, L3, L4, L5, L6, L7, L8, L9, L10, L11, L12}
use Rattle.nm_ident.specs.UuidText.{uuid_text}
use Rattle.nm_reader.specs.Code.{code_text}
use Rattle.nm_reader.specs.declared.fault.Fault.{Fault}
use Rattle.nm_statement.specs.Line.{line_of}
use Rattle.nm_statement.specs.declared.statement.Statement.{Statement}
use Rattle.nm_timeline.specs.declared.part.Part.{Part}
use Rattle.nm_timeline.specs.declared.part.Part.TheVariants as parts
use Rattle.nm_version.specs.Timeline.{statement_of}
use Rattle.nm_version.specs.declared.line.Line.{Line}
use Rattle.nm_version.specs.declared.line.Line.TheVariants as line
use Rattle.nm_version.specs.declared.refusal.Cause.{Cause}
use Rattle.nm_version.specs.declared.refusal.Cause.TheVariants.{Dependency, Precondition, Reverse, Forward}
use Rattle.nm_version.specs.declared.refusal.Refusal.{Refusal}
use Rattle.nm_version.specs.declared.refusal.Refusal.TheVariants as refusal
use Rattle.nm_version.specs.declared.row.Row.{Row}

abbrev pub reply_line : List ℕ → List ℕ
reply_line text = text ++ 10 ∷ []

-- a word and a number
abbrev pub numbered : List ℕ → ℕ → List ℕ
numbered word number = reply_line (word ++ codes " " ++ decimal number)

-- bytes behind their length
abbrev pub with_length : List ℕ → List ℕ → List ℕ
with_length word bytes = numbered word (length bytes) ++ bytes

-- the document of an assembly
abbrev pub document_reply : List ℕ → List ℕ
document_reply bytes = with_length (codes "document") bytes

-- the log as a stream of a session
abbrev pub log_reply : List ℕ → List ℕ
log_reply bytes = with_length (codes "log") bytes

-- a project, its day, and its current model
abbrev pub row_line : Row → List ℕ
row_line row = reply_line (uuid_text row.project ++ codes " " ++ row.day ++ codes " " ++ uuid_text row.current)

-- rows behind their number
abbrev pub projects_reply : List Row → List ℕ
projects_reply rows = numbered (codes "projects") (length rows) ++ flat_map row_line rows

abbrev pub summary_reply : ℕ → ℕ → ℕ → List ℕ
summary_reply commits projects statements =
    reply_line (codes "summary commits " ++ decimal commits ++ codes " projects " ++ decimal projects
    ++ codes " statements " ++ decimal statements)

abbrev pub limit_name : Limit → List ℕ
limit_name L1 = codes "L1"
limit_name L2 = codes "L2"
limit_name L3 = codes "L3"
limit_name L4 = codes "L4"
limit_name L5 = codes "L5"
limit_name L6 = codes "L6"
limit_name L7 = codes "L7"
limit_name L8 = codes "L8"
limit_name L9 = codes "L9"
limit_name L10 = codes "L10"
limit_name L11 = codes "L11"
limit_name L12 = codes "L12"

-- what does not fit
abbrev pub cause_text : Cause → List ℕ
cause_text (Dependency id) = codes "dependency " ++ uuid_text id
cause_text (Precondition statement) = codes "precondition " ++ line_of statement
cause_text (Reverse statement) = codes "reverse " ++ line_of statement
cause_text (Forward statement) = codes "forward " ++ line_of statement

-- the day and the model of a step, and what does not fit
abbrev pub step_text : List ℕ → ℕ → Cause → List ℕ
step_text day model cause = day ++ codes " " ++ uuid_text model ++ codes " " ++ cause_text cause

-- what a refusal says; want of memory is not said
abbrev pub refusal_text : Refusal → List ℕ
refusal_text refusal.Kind = codes "kind"
refusal_text (refusal.Unknown id) = codes "unknown " ++ uuid_text id
refusal_text (refusal.NotSuperseding id) = codes "superseding " ++ uuid_text id
refusal_text (refusal.InUse id) = codes "inuse " ++ uuid_text id
refusal_text (refusal.Limit limit) = codes "limit " ++ limit_name limit
refusal_text (refusal.Step day model cause) = codes "step " ++ step_text day model cause
refusal_text refusal.NoMemory = []

abbrev pub refused_reply : Refusal → List ℕ
refused_reply refusal = reply_line (codes "refused " ++ refusal_text refusal)

-- a word, and the place and the code of a fault
abbrev pub fault_line : List ℕ → Fault → List ℕ
fault_line word fault = reply_line (word ++ codes " " ++ decimal fault.at ++ codes " " ++ code_text fault.code)

-- the reply to a document with a fault
abbrev pub refused_document_reply : Fault → List ℕ
refused_document_reply fault = fault_line (codes "refused document") fault

-- the statements of an object behind their number
abbrev pub statement_line : Statement → List ℕ
statement_line statement = reply_line (line_of statement)

abbrev pub statements_reply : List Statement → List ℕ
statements_reply statements = numbered (codes "statements") (length statements) ++ flat_map statement_line statements

abbrev pub part_name : Part → List ℕ
part_name parts.Precondition = codes "precondition"
part_name parts.Reverse = codes "reverse"
part_name parts.Forward = codes "forward"

-- where a statement stands: in the base, or in a part of the change of a model in service from a day on
abbrev pub place_text : Line → List ℕ
place_text (line.Base statement) = codes "base"
place_text (line.Named day model part statement) = day ++ codes " " ++ uuid_text model ++ codes " " ++ part_name part

abbrev pub timeline_line : Line → List ℕ
timeline_line said = reply_line (place_text said ++ codes " " ++ line_of (statement_of said))

-- the lines of a timeline behind their number
abbrev pub lines_reply : List Line → List ℕ
lines_reply lines = numbered (codes "lines") (length lines) ++ flat_map timeline_line lines
