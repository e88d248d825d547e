-- The model and the fault of an input: the pieces that are read are those that it is cut into.
use Rattle.std.proofs.Common.{◌≡◌, ◌≤◌, ◌<◌, ℕ, zero, suc, ◌+◌, ◌-◌, List, [], ◌∷◌, ◌++◌, length, length-append, map, drop, take, Bool, true, false, nat_le, if◌then◌else◌, Ok, Err, refl, sym, ap, subst, ◌∙◌, arith}
use Rattle.std.proofs.lemmas.Bool.Decides.{nat_tests}
use Rattle.std.proofs.lemmas.List.{length-drop}
use Rattle.nm_model.specs.Limits.{longest_document}
use Rattle.nm_model.specs.declared.document.Document.{Document}
use Rattle.nm_piece.proofs.Cuttings.{exact}
use Rattle.nm_piece.specs.Cutting.{IsCut, IsCutFrom, Placed, mark_length}
use Rattle.nm_piece.specs.Piece.{piece_at}
use Rattle.nm_piece.specs.Reading.{Read}
use Rattle.nm_piece.specs.Spells.{IsSpeltAt, MayEndBefore, NoneIsSpeltAt}
use Rattle.nm_piece.specs.declared.piece.Piece.{Piece}
use Rattle.nm_piece.specs.declared.unread.Unread.{Unread}
use Rattle.nm_piece.specs.declared.unread.Unread.TheVariants as unread
use Rattle.nm_reader.specs.Cutting.{Cutting, Rest, Ended, Unfinished, NoPiece, More, piece_placed, pieces_cut}
use Rattle.nm_reader.specs.Document.{IsDocument, States}
use Rattle.nm_reader.specs.Input.{IsDocumentOf, before_more, cut, cut_behind, cut_within, cutting_of, rest_of, with_piece}
use Rattle.nm_reader.specs.Laws.{DocumentsHaveNoFault, InputsStateOneModel, ModelsAreTold}
use Rattle.nm_reader.proofs.Documents.{faultless_pieces_are_documents, pieces_state_one_model, told_by_pieces}

pub shorter : (bytes : List ℕ) (last : Bool) (piece : Piece) (rest : List ℕ) → IsSpeltAt bytes last piece rest → length rest < length bytes
shorter bytes last piece rest spelt = by spelt.front spelt.whole spelt.ends
  where
    by : (front : List ℕ) → bytes ≡ front ++ rest → MayEndBefore front rest last → length rest < length bytes
    by [] whole ends = absurd ends
    by (byte ∷ front) whole ends = omega (arith, ap length whole, length-append (byte ∷ front) rest)

pub none_read : (bytes : List ℕ) (why : Unread) → piece_at bytes true ≡ Err why → NoneIsSpeltAt bytes true
none_read bytes why is piece rest spelt =
    let found : ◌≡◌ {A = Read Piece} (Ok (piece, rest)) (Err why) = sym ((exact.found bytes true piece rest).1 spelt) ∙ is in
    cc

-- where the cutting of an input ends with it, its pieces are those that are read
pub IsAllOf : List Placed → Cutting → Type 0
IsAllOf pieces cutting = (cutting.pieces ≡ pieces) × (cutting.rest ≡ Ended)

nothing_left : (offset : ℕ) (seen : Read Piece) (cut_on : List ℕ → Cutting) → piece_at [] true ≡ seen → NoneIsSpeltAt [] true
    → IsAllOf [] (cut_behind true offset [] seen cut_on)
unfolding IsAllOf
nothing_left offset (Ok read) cut_on is none = absurd (none read.0 read.1 ((exact.found [] true read.0 read.1).0 is))
nothing_left offset (Err why) cut_on is none = (refl, refl)

with_first : (offset : ℕ) (placed : Placed) (others : List Placed) (cutting : Cutting) → placed.offset ≡ offset → IsAllOf others cutting
    → IsAllOf (placed ∷ others) (with_piece offset placed.piece cutting)
unfolding IsAllOf
with_first offset placed others cutting same all =
    (ap (λ o. record { piece = placed.piece; offset = o } ∷ cutting.pieces) (sym same) ∙ ap (λ p. placed ∷ p) all.0, all.1)

pub all_cut : (pieces : List Placed) (most offset : ℕ) (bytes : List ℕ) → length bytes < most → IsCutFrom offset bytes pieces [] → IsAllOf pieces (cut_within most true offset bytes)
unfolding cut_within IsAllOf
all_cut pieces zero offset bytes short is_cut = absurd (omega arith)
all_cut [] (suc most) offset bytes short is_cut =
    let P : List ℕ → Type 0 = λ b. IsAllOf [] (cut_within (suc most) true offset b) in
    let none : NoneIsSpeltAt [] true = is_cut.1 in
    subst P (sym is_cut.0) (nothing_left offset (piece_at [] true) (λ behind. cut_within most true (offset + (length {A = ℕ} [] - length behind)) behind) refl none)
all_cut (placed ∷ others) (suc most) offset bytes short is_cut =
    let behind : List ℕ = is_cut.0 in
    let less : length behind < length bytes = shorter bytes true placed.piece behind is_cut.2 in
    let read : piece_at bytes true ≡ Ok (placed.piece, behind) = (exact.found bytes true placed.piece behind).1 is_cut.2 in
    let P : Read Piece → Type 0 = λ r. IsAllOf (placed ∷ others) (cut_behind true offset bytes r (λ b. cut_within most true (offset + (length bytes - length b)) b)) in
    subst P (sym read) (with_first offset placed others (cut_within most true (offset + (length bytes - length behind)) behind) is_cut.1 (all_cut others most (offset + (length bytes - length behind)) behind (omega arith) is_cut.3))

-- ---- and the other way round

ended_empty : (bytes : List ℕ) (why : Unread) → rest_of bytes why ≡ Ended → bytes ≡ []
ended_empty [] why ended = refl
ended_empty (byte ∷ bytes) unread.Unfinished ended = absurd (cc)
ended_empty (byte ∷ bytes) unread.NoPiece ended = absurd (cc)
ended_empty (byte ∷ bytes) unread.NoMemory ended = absurd (cc)

CutsOn : ℕ → Type 0
CutsOn most = (offset : ℕ) (bytes : List ℕ) → length bytes < most → (cut_within most true offset bytes).rest ≡ Ended → IsCutFrom offset bytes (cut_within most true offset bytes).pieces []

cut_on : (most offset : ℕ) (bytes : List ℕ) (seen : Read Piece) → CutsOn most → length bytes < suc most → piece_at bytes true ≡ seen
    → (cut_behind true offset bytes seen (λ b. cut_within most true (offset + (length bytes - length b)) b)).rest ≡ Ended
    → IsCutFrom offset bytes (cut_behind true offset bytes seen (λ b. cut_within most true (offset + (length bytes - length b)) b)).pieces []
unfolding CutsOn
cut_on most offset bytes (Ok read) cuts short is ended =
    let found : IsSpeltAt bytes true read.0 read.1 = (exact.found bytes true read.0 read.1).0 is in
    let less : length read.1 < length bytes = shorter bytes true read.0 read.1 found in
    (read.1, refl, found, cuts (offset + (length bytes - length read.1)) read.1 (omega arith) ended)
cut_on most offset bytes (Err why) cuts short is ended =
    let empty : bytes ≡ [] = ended_empty bytes why ended in
    let P : List ℕ → Type 0 = λ b. (b ≡ []) × NoneIsSpeltAt b true in
    (empty, subst (λ (b : List ℕ). NoneIsSpeltAt b true) empty (none_read bytes why is))

is_cut_from : (most : ℕ) → CutsOn most
unfolding CutsOn cut_within
is_cut_from zero offset bytes short ended = absurd (omega arith)
is_cut_from (suc most) offset bytes short ended = cut_on most offset bytes (piece_at bytes true) (is_cut_from most) short refl ended

-- ---- inputs

short_enough : (input : List ℕ) → length (drop (mark_length input) input) < suc (length input)
short_enough input = omega (arith, length-drop (mark_length input) input)

all_of_input : (input : List ℕ) (pieces : List Placed) → IsCut input pieces [] → IsAllOf pieces (cut true input)
all_of_input input pieces is_cut = all_cut pieces (suc (length input)) (mark_length input) (drop (mark_length input) input) (short_enough input) is_cut

cut_of_input : (input : List ℕ) → (cut true input).rest ≡ Ended → IsCut input (cut true input).pieces []
unfolding CutsOn
cut_of_input input ended = is_cut_from (suc (length input)) (mark_length input) (drop (mark_length input) input) (short_enough input) ended

-- ---- where more bytes follow, the pieces do not end with the input

more_stands : (offset : ℕ) (rest : Rest) → (before_more offset rest).rest ≡ Ended → ⊥
more_stands offset NoPiece ended = absurd (cc)
more_stands offset Ended ended = absurd (cc)
more_stands offset Unfinished ended = absurd (cc)
more_stands offset More ended = absurd (cc)

GoesOn : ℕ → Type 0
GoesOn most = (offset : ℕ) (bytes : List ℕ) → (cut_within most false offset bytes).rest ≡ Ended → ⊥

goes_on_behind : (most offset : ℕ) (bytes : List ℕ) (seen : Read Piece) → GoesOn most
    → (cut_behind false offset bytes seen (λ b. cut_within most false (offset + (length bytes - length b)) b)).rest ≡ Ended → ⊥
unfolding GoesOn
goes_on_behind most offset bytes (Ok read) on ended = on (offset + (length bytes - length read.1)) read.1 ended
goes_on_behind most offset bytes (Err why) on ended = more_stands offset (rest_of bytes why) ended

goes_on : (most : ℕ) → GoesOn most
unfolding GoesOn cut_within
goes_on zero offset bytes ended = absurd (cc)
goes_on (suc most) offset bytes ended = goes_on_behind most offset bytes (piece_at bytes false) (goes_on most) ended

never_ended : (input : List ℕ) → (cut false input).rest ≡ Ended → ⊥
unfolding GoesOn
never_ended input ended = goes_on (suc (length input)) (mark_length input) (drop (mark_length input) input) ended

stated_cut : (input : List ℕ) (short : Bool) (model : Document) → nat_le (length input) longest_document ≡ short
    → States (if short then cut true input else cut false (take longest_document input)) model
    → IsDocumentOf input model
stated_cut input true model short states =
    record { short = grind (arith, nat_tests); pieces = (cut true input).pieces; cut = cut_of_input input states.0; states = states.1 }
stated_cut input false model short states = absurd (never_ended (take longest_document input) states.0)

cut_stated : (input : List ℕ) (short : Bool) (model : Document) → nat_le (length input) longest_document ≡ short → IsDocumentOf input model
    → States (if short then cut true input else cut false (take longest_document input)) model
unfolding IsAllOf
cut_stated input true model short document =
    let all : IsAllOf document.pieces (cut true input) = all_of_input input document.pieces document.cut in
    (all.1, subst (λ (p : List Placed). IsDocument (map piece_placed p) model) (sym all.0) document.states)
cut_stated input false model short document =
    let within : length input ≤ longest_document = document.short in
    absurd (grind (arith, nat_tests))

states_input : (input : List ℕ) (model : Document) → IsDocumentOf input model → States (cutting_of input) model
states_input input model document = cut_stated input (nat_le (length input) longest_document) model refl document

pub documents_have_no_fault : DocumentsHaveNoFault
documents_have_no_fault input = (
  λ none. let found = (faultless_pieces_are_documents (cutting_of input)).0 none in (found.0, stated_cut input (nat_le (length input) longest_document) found.0 refl found.1),
  λ document. (faultless_pieces_are_documents (cutting_of input)).1 (document.0, states_input input document.0 document.1),
)

pub inputs_state_one_model : InputsStateOneModel
inputs_state_one_model input model other document others = pieces_state_one_model (cutting_of input) model other (states_input input model document) (states_input input other others)

pub models_are_told : ModelsAreTold
models_are_told input model document = let states = states_input input model document in told_by_pieces (pieces_cut (cutting_of input)) model states.1
