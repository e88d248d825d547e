-- What is due at the end of the pieces, and of the whole input.
use Rattle.std.proofs.Common.{◌≡◌, ◌≤◌, ◌<◌, ℕ, List, [], ◌∷◌, length, take, Bool, true, false, not, ◌==◌, nat_le, if◌then◌else◌, Option, None, Some, Result, Ok, Err, IfOk, refl, ap, ◌∙◌, arith}
use Rattle.std.proofs.lemmas.Bool.Decides.{nat_tests}
use Rattle.nm_model.specs.Limits.{longest_document}
use Rattle.nm_model.specs.Sound.{is_sound_within_limits}
use Rattle.nm_model.specs.declared.document.Document.{Document}
use Rattle.nm_piece.specs.declared.unread.Unread.{Unread}
use Rattle.nm_piece.specs.declared.unread.Unread.TheVariants as unread
use Rattle.nm_terms.specs.Due.{IsDue}
use Rattle.nm_reader.specs.Context.{Context, beginning, is_whole}
use Rattle.nm_reader.specs.Cutting.{Left, Ended}
use Rattle.nm_reader.specs.Fault.{fault_or}
use Rattle.nm_reader.specs.Input.{IsDocumentOf, cut, end_at}
use Rattle.nm_reader.specs.Model.{document_of}
use Rattle.nm_reader.specs.Read.{due_from, end_fault, is_unfinished, read_due, read_of, wants_memory}
use Rattle.nm_reader.specs.Rules.{code_at}
use Rattle.nm_reader.specs.declared.error.ReadError.{ReadError}
use Rattle.nm_reader.specs.declared.fault.Code.{Code}
use Rattle.nm_reader.specs.declared.fault.Code.TheVariants as code
use Rattle.nm_reader.specs.declared.fault.Fault.{Fault}
use Rattle.nm_reader.proofs.KeptModels.{stated_models_are_kept}
use Rattle.nm_reader.proofs.Readings.{documents_are_read}

-- ---- the end of the pieces

ended_code : (context : Context) → code_at context (Left Ended) ≡ (if not (is_whole context) then Some code.Cut else None)
unfolding code_at
ended_code context = refl

ended_so : (whole : Bool) (at : ℕ) (model : Option Document)
    → read_of (fault_or at (if not whole then Some code.Cut else None) None) model ≡ read_of (end_fault true false true whole at) model
ended_so true at model = refl
ended_so false at model = refl

ended_or : (whole : Bool) (unfinished : Bool) (at : ℕ) → end_fault true false true whole at ≡ end_fault true unfinished true whole at
ended_or whole true at = refl
ended_or whole false at = refl

due_in_bytes : (context : Context) (last : Bool) (at byte : ℕ) (bytes : List ℕ) (why : Unread)
    → due_from context (end_at last at (byte ∷ bytes) why) ≡ read_of (end_fault false (is_unfinished why) last (is_whole context) at) (document_of context.told)
unfolding code_at
due_in_bytes context true at byte bytes unread.Unfinished = refl
due_in_bytes context true at byte bytes unread.NoPiece = refl
due_in_bytes context true at byte bytes unread.NoMemory = refl
due_in_bytes context false at byte bytes unread.Unfinished = refl
due_in_bytes context false at byte bytes unread.NoPiece = refl
due_in_bytes context false at byte bytes unread.NoMemory = refl

some_bytes : (byte : ℕ) (bytes : List ℕ) → false ≡ (length (byte ∷ bytes) == 0)
some_bytes byte bytes = grind (arith, nat_tests)

due_without_bytes : (context : Context) (last : Bool) (at : ℕ) (why : Unread)
    → due_from context (end_at last at [] why) ≡ read_of (end_fault true (is_unfinished why) last (is_whole context) at) (document_of context.told)
unfolding code_at
due_without_bytes context true at why =
    ap (λ (c : Option Code). read_of (fault_or at c None) (document_of context.told)) (ended_code context)
    ∙ ended_so (is_whole context) at (document_of context.told)
    ∙ ap (λ (f : Option Fault). read_of f (document_of context.told)) (ended_or (is_whole context) (is_unfinished why) at)
due_without_bytes context false at why = refl

pub due_at_end : (context : Context) (last : Bool) (at : ℕ) (bytes : List ℕ) (why : Unread)
    → due_from context (end_at last at bytes why) ≡ read_of (end_fault (length bytes == 0) (is_unfinished why) last (is_whole context) at) (document_of context.told)
due_at_end context last at [] why = due_without_bytes context last at why
due_at_end context last at (byte ∷ bytes) why =
    due_in_bytes context last at byte bytes why
    ∙ ap (λ (e : Bool). read_of (end_fault e (is_unfinished why) last (is_whole context) at) (document_of context.told)) (some_bytes byte bytes)

-- ---- the whole input

due_by : (input : List ℕ) (short : Bool) → nat_le (length input) longest_document ≡ short
    → read_due input ≡ due_from beginning (if short then cut true input else cut false (take longest_document input))
unfolding read_due
due_by input short is =
    ap (λ (b : Bool). due_from beginning (if b then cut true input else cut false (take longest_document input))) is

pub due_short : (input : List ℕ) → length input ≤ longest_document → read_due input ≡ due_from beginning (cut true input)
due_short input short = due_by input true (grind (arith, nat_tests))

pub due_long : (input : List ℕ) → longest_document < length input → read_due input ≡ due_from beginning (cut false (take longest_document input))
due_long input long = due_by input false (grind (arith, nat_tests))

pub stated_by : (input : List ℕ) (result : Result Document ReadError) → IsDue wants_memory result (read_due input) → IfOk result (λ model. IsDocumentOf input model)
stated_by input (Ok model) due = (documents_are_read input model).0 due
stated_by input (Err error) due = tt

pub kept_by : (input : List ℕ) (result : Result Document ReadError) → IsDue wants_memory result (read_due input) → IfOk result (λ model. is_sound_within_limits model ≡ true)
kept_by input (Ok model) due = stated_models_are_kept input model ((documents_are_read input model).0 due)
kept_by input (Err error) due = tt
