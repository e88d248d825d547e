-- What the bytes of a document are as the body of a command: they state a model, or they have a fault.
use Rattle.std.specs.Prelude.{◌≡◌, ℕ, List, Option, None, Some, Result, Ok, Err}
use Rattle.nm_model.specs.declared.document.Document.{Document}
use Rattle.nm_reader.specs.Input.{IsDocumentOf}
use Rattle.nm_reader.specs.Read.{read_due}
use Rattle.nm_reader.specs.declared.error.ReadError.{ReadError}
use Rattle.nm_reader.specs.declared.error.ReadError.TheVariants as read_error
use Rattle.nm_session.specs.declared.body.Body.{Body}
use Rattle.nm_session.specs.declared.body.Body.TheVariants as body
use Rattle.nm_session.specs.declared.body.Spelling.{Spelling}
use Rattle.nm_session.specs.declared.body.Spelling.TheVariants.{Good, Bad}

-- want of memory is what no bytes are
abbrev pub stated : List ℕ → Result Document ReadError → Body
stated bytes (Ok document) = body.Document document bytes
stated bytes (Err (read_error.Fault fault)) = body.Fault fault
stated bytes (Err read_error.NoMemory) = body.Absent

abbrev pub body_of : List ℕ → Body
body_of bytes = stated bytes (read_due bytes)

-- the body that was read so
abbrev pub body_spelt : Spelling → Body
body_spelt (Good document bytes) = body.Document document bytes
body_spelt (Bad fault) = body.Fault fault

-- a document or a fault, where the bytes beside the document spell it
abbrev pub IsReadBody : Body → Type 0
IsReadBody body.Absent = ⊥
IsReadBody (body.Document document bytes) = IsDocumentOf bytes document
IsReadBody (body.Fault fault) = Unit {0}

-- a body is there exactly where a length is
abbrev pub IsBodyOf : Option ℕ → Body → Type 0
IsBodyOf None given = given ≡ body.Absent
IsBodyOf (Some len) given = IsReadBody given
