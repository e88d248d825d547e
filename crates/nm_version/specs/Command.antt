-- What commands bring, and what the log keeps of them.
use Rattle.std.specs.Prelude.{ℕ, ◌^◌, ◌<◌, length, Option, None, Some, IsTrue}
use Rattle.nm_day.specs.Day.{is_day}
use Rattle.nm_model.specs.declared.document.Document.{Document}
use Rattle.nm_model.specs.declared.document.Document.TheVariants as document
use Rattle.nm_model.specs.declared.header.Header.{Header}
use Rattle.nm_reader.specs.Input.{IsDocumentOf}
use Rattle.nm_version.specs.declared.command.Command.{Command}
use Rattle.nm_version.specs.declared.command.Command.TheVariants.{File, Revise, Redate, Withdraw}
use Rattle.nm_version.specs.declared.command.Entry.{Entry}
use Rattle.nm_version.specs.declared.command.Entry.TheVariants as entry

-- the bytes beside a document spell it
abbrev pub IsSpelt : Command → Type 0
IsSpelt (File day model bytes) = IsDocumentOf bytes model
IsSpelt (Revise project model bytes) = IsDocumentOf bytes model
IsSpelt (Redate project day) = Unit {0}
IsSpelt (Withdraw project) = Unit {0}

-- a line can say the command: its day is one, and the project that it names has the number of a UUID
abbrev pub HasLine : Command → Type 0
HasLine (File day model bytes) = IsTrue (is_day day)
HasLine (Revise project model bytes) = project < 2 ^ 128
HasLine (Redate project day) = (project < 2 ^ 128) × IsTrue (is_day day)
HasLine (Withdraw project) = project < 2 ^ 128

-- the project that a command names
abbrev pub project_named : Command → Option ℕ
project_named (File day model bytes) = None
project_named (Revise project model bytes) = Some project
project_named (Redate project day) = Some project
project_named (Withdraw project) = Some project

-- the document that a command brings
abbrev pub document_brought : Command → Option Document
document_brought (File day model bytes) = Some model
document_brought (Revise project model bytes) = Some model
document_brought (Redate project day) = None
document_brought (Withdraw project) = None

abbrev pub header_of : Document → Header
header_of (document.Full full) = full.header
header_of (document.Difference difference) = difference.header

-- a command as the log keeps it
abbrev pub entry_of : Command → Entry
entry_of (File day model bytes) = entry.File day bytes
entry_of (Revise project model bytes) = entry.Revise project bytes
entry_of (Redate project day) = entry.Redate project day
entry_of (Withdraw project) = entry.Withdraw project

-- how many bytes the document of an entry has
abbrev pub document_size : Entry → ℕ
document_size (entry.File day bytes) = length bytes
document_size (entry.Revise project bytes) = length bytes
document_size (entry.Redate project day) = 0
document_size (entry.Withdraw project) = 0
