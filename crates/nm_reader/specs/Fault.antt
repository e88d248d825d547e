-- The fault of a document: the first rule that applies, at the first place where one does.
use Rattle.std.specs.Prelude.{ℕ, List, [], ◌∷◌, Option, None, Some}
use Rattle.nm_reader.specs.Context.{Context, after, beginning}
use Rattle.nm_piece.specs.Cutting.{Placed}
use Rattle.nm_reader.specs.Cutting.{Cutting, Left, Rest, Spelt}
use Rattle.nm_reader.specs.Rules.{code_at}
use Rattle.nm_reader.specs.declared.fault.Code.{Code}
use Rattle.nm_reader.specs.declared.fault.Fault.{Fault}

abbrev pub fault_or : ℕ → Option Code → Option Fault → Option Fault
fault_or at None later = later
fault_or at (Some code) later = Some (record { at = at; code = code })

abbrev pub fault_from : Context → List Placed → ℕ → Rest → Option Fault
fault_from context [] end rest = fault_or end (code_at context (Left rest)) None
fault_from context (placed ∷ others) end rest =
    fault_or placed.offset (code_at context (Spelt placed.piece))
    (fault_from (after context placed.piece) others end rest)

abbrev pub fault_of : Cutting → Option Fault
fault_of cutting = fault_from beginning cutting.pieces cutting.end cutting.rest
