-- What the definitions of this crate keep to.
use Rattle.std.specs.Prelude.{◌≡◌, ◌↔◌, ◌<◌, ◌≤◌, ℕ, ◌+◌, List, [], length, true, None, Some, Ok}
use Rattle.nm_model.specs.Sound.{is_sound_within_limits}
use Rattle.nm_model.specs.declared.document.Document.{Document}
use Rattle.nm_model.specs.Limits.{longest_document}
use Rattle.nm_piece.specs.Cutting.{IsCut}
use Rattle.nm_piece.specs.Spells.{IsUnfinished, NoneIsSpeltAt}
use Rattle.nm_reader.specs.Cutting.{Cutting, Rest, Ended, Unfinished, NoPiece, More}
use Rattle.nm_reader.specs.Document.{States}
use Rattle.nm_reader.specs.Fault.{fault_of}
use Rattle.nm_reader.specs.Input.{IsDocumentOf, cutting_of, fault_of_input, model_of_input}
use Rattle.nm_reader.specs.Read.{read_due}

-- pieces state a model exactly where no rule applies to them
abbrev pub FaultlessPiecesAreDocuments : Type 0
FaultlessPiecesAreDocuments = (cutting : Cutting) → (fault_of cutting ≡ None) ↔ ((model : Document) × States cutting model)

-- and they state one model alone
abbrev pub PiecesStateOneModel : Type 0
PiecesStateOneModel = (cutting : Cutting) (model other : Document) → States cutting model → States cutting other → model ≡ other

-- an input states a model exactly where it has no fault
abbrev pub DocumentsHaveNoFault : Type 0
DocumentsHaveNoFault = (input : List ℕ) → (fault_of_input input ≡ None) ↔ ((model : Document) × IsDocumentOf input model)

-- and it states one model alone, ..
abbrev pub InputsStateOneModel : Type 0
InputsStateOneModel = (input : List ℕ) (model other : Document) → IsDocumentOf input model → IsDocumentOf input other → model ≡ other

-- .. which is what its pieces tell
abbrev pub ModelsAreTold : Type 0
ModelsAreTold = (input : List ℕ) (model : Document) → IsDocumentOf input model → model_of_input input ≡ Some model

-- reading an input is due the model that it states, where it states one
abbrev pub DocumentsAreRead : Type 0
DocumentsAreRead = (input : List ℕ) (model : Document) → (read_due input ≡ Ok model) ↔ IsDocumentOf input model

-- and the model can be kept
abbrev pub StatedModelsAreKept : Type 0
StatedModelsAreKept = (input : List ℕ) (model : Document) → IsDocumentOf input model → is_sound_within_limits model ≡ true

-- what is said of the bytes behind the last piece is so: there are none, they are the front of a piece, or they begin none
abbrev pub RestIs : Rest → List ℕ → Type 0
RestIs Ended bytes = bytes ≡ []
RestIs Unfinished bytes = (0 < length bytes) × IsUnfinished bytes true
RestIs NoPiece bytes = (0 < length bytes) × NoneIsSpeltAt bytes true × (IsUnfinished bytes true → ⊥)
RestIs More bytes = ⊥

-- the input is cut into these pieces, they end there, and the rest stands behind them
pub record IsLeftOver (input : List ℕ) (cutting : Cutting) : Type 0 where
  pub rest : List ℕ
  pub pieces : IsCut input cutting.pieces rest
  pub end : cutting.end + length rest ≡ length input
  pub left : RestIs cutting.rest rest

-- up to the longest document, the fault of an input is judged on the pieces that it is cut into, and on what stands
-- behind them
abbrev pub FaultsAreJudgedOnTheCutting : Type 0
FaultsAreJudgedOnTheCutting = (input : List ℕ) → length input ≤ longest_document → IsLeftOver input (cutting_of input)
