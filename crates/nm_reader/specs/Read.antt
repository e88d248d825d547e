-- What reading an input is due.
use Rattle.std.specs.Prelude.{ℕ, suc, ◌-◌, List, length, Bool, true, false, not, ◌&&◌, if◌then◌else◌, Option, None, Some, Result, Ok, Err}
use Rattle.nm_model.specs.Limits.{longest_document}
use Rattle.nm_model.specs.declared.document.Document.{Document}
use Rattle.nm_piece.specs.declared.unread.Unread.{Unread}
use Rattle.nm_piece.specs.declared.unread.Unread.TheVariants as unread
use Rattle.nm_reader.specs.Context.{Context, after_all}
use Rattle.nm_reader.specs.Cutting.{Cutting, pieces_cut}
use Rattle.nm_reader.specs.Fault.{fault_from}
use Rattle.nm_reader.specs.Input.{cut_within, fault_of_input, model_of_input}
use Rattle.nm_reader.specs.Model.{document_of}
use Rattle.nm_reader.specs.declared.error.ReadError.{ReadError}
use Rattle.nm_reader.specs.declared.error.ReadError.TheVariants as read_error
use Rattle.nm_reader.specs.declared.fault.Code.{Code}
use Rattle.nm_reader.specs.declared.fault.Code.TheVariants as code
use Rattle.nm_reader.specs.declared.fault.Fault.{Fault}

abbrev pub wants_memory : ReadError → Bool
wants_memory (read_error.Fault fault) = false
wants_memory read_error.NoMemory = true

-- an input without a fault has a model, so that the last case does not come
abbrev pub read_of : Option Fault → Option Document → Result Document ReadError
read_of (Some fault) model = Err (read_error.Fault fault)
read_of None (Some model) = Ok model
read_of None None = Err read_error.NoMemory

-- the fault of the input, or else its model
unfoldable pub read_due : List ℕ → Result Document ReadError
read_due input = read_of (fault_of_input input) (model_of_input input)

-- what is due where pieces before have left this context, and the rest is cut so
abbrev pub due_from : Context → Cutting → Result Document ReadError
due_from context cutting =
    read_of (fault_from context cutting.pieces cutting.end cutting.rest) (document_of (after_all context (pieces_cut cutting)).told)

-- the rest of an input of so many bytes, cut into pieces
unfoldable pub cut_rest : Bool → ℕ → List ℕ → Cutting
cut_rest last total rest = cut_within (suc (length rest)) last (total - length rest) rest

-- a rule that applies at an offset, as a refusal
abbrev pub refusal_at : ℕ → Option Code → Option ReadError
refusal_at at None = None
refusal_at at (Some code) = Some (read_error.Fault (record { at = at; code = code }))

abbrev pub is_unfinished : Unread → Bool
is_unfinished unread.Unfinished = true
is_unfinished unread.NoPiece = false
is_unfinished unread.NoMemory = false

-- the fault at the end of the pieces, by what is asked of the end
abbrev pub end_fault : (ended unfinished last whole : Bool) → ℕ → Option Fault
end_fault ended unfinished last whole at =
    if not ended && not unfinished then Some (record { at = at; code = code.Piece })
    else if not last then Some (record { at = longest_document; code = code.Limit })
    else if ended && whole then None
    else Some (record { at = at; code = code.Cut })
