-- Reading an input is due the model that it states.
use Rattle.std.proofs.Common.{◌≡◌, ℕ, List, Option, None, Some, Ok, refl, sym, subst, ◌∙◌}
use Rattle.nm_model.specs.declared.document.Document.{Document}
use Rattle.nm_reader.specs.Input.{IsDocumentOf, fault_of_input, model_of_input}
use Rattle.nm_reader.specs.Laws.{DocumentsAreRead}
use Rattle.nm_reader.specs.Read.{read_due, read_of}
use Rattle.nm_reader.specs.declared.fault.Fault.{Fault}
use Rattle.nm_reader.proofs.Inputs.{documents_have_no_fault, models_are_told}

one_model : (x y : Document) → ◌≡◌ {A = Option Document} (Some x) (Some y) → x ≡ y
one_model x y same = cc

stated : (input : List ℕ) (model : Document) (fault : Option Fault) (told : Option Document) → fault_of_input input ≡ fault → model_of_input input ≡ told
    → read_of fault told ≡ Ok model → IsDocumentOf input model
stated input model (Some fault) told none is due = absurd (cc)
stated input model None None none is due = absurd (cc)
stated input model None (Some other) none is due =
    let found = (documents_have_no_fault input).0 none in
    let is_found : model_of_input input ≡ Some found.0 = models_are_told input found.0 found.1 in
    let same : other ≡ model = cc in
    subst (λ (m : Document). IsDocumentOf input m) (one_model found.0 other (sym is_found ∙ is) ∙ same) found.1

pub documents_are_read : DocumentsAreRead
unfolding read_due
documents_are_read input model = (
  λ due. stated input model (fault_of_input input) (model_of_input input) refl refl due,
  λ document. let none = (documents_have_no_fault input).1 (model, document) in let told = models_are_told input model document in rw (none, told) refl,
)
