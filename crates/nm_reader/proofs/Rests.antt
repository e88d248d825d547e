-- The rest of an input is cut as the input is, piece by piece.
use Rattle.std.proofs.Common.{◌≡◌, ◌≤◌, ◌<◌, ℕ, zero, suc, ◌+◌, ◌-◌, List, [], ◌∷◌, length, drop, Bool, Option, None, Some, Result, Ok, Err, refl, sym, ap, subst, ◌∙◌, arith}
use Rattle.std.proofs.lemmas.List.{length-drop}
use Rattle.nm_model.specs.declared.document.Document.{Document}
use Rattle.nm_piece.proofs.Cuttings.{exact}
use Rattle.nm_piece.specs.Cutting.{mark_length}
use Rattle.nm_piece.specs.Piece.{piece_at}
use Rattle.nm_piece.specs.Reading.{Read}
use Rattle.nm_piece.specs.declared.piece.Piece.{Piece}
use Rattle.nm_piece.specs.declared.unread.Unread.{Unread}
use Rattle.nm_terms.specs.Due.{IsDue, RefusalIsDue}
use Rattle.nm_reader.specs.Context.{Context, after, after_all, beginning}
use Rattle.nm_reader.specs.Cutting.{Cutting, Spelt, pieces_cut}
use Rattle.nm_reader.specs.Fault.{fault_from, fault_or}
use Rattle.nm_reader.specs.Input.{cut, cut_behind, cut_within, end_at, with_piece}
use Rattle.nm_reader.specs.Model.{document_of}
use Rattle.nm_reader.specs.Read.{cut_rest, due_from, read_of, refusal_at, wants_memory}
use Rattle.nm_reader.specs.Rules.{code_at}
use Rattle.nm_reader.specs.Taken.{IsBehind}
use Rattle.nm_reader.specs.declared.error.ReadError.{ReadError}
use Rattle.nm_reader.specs.declared.error.ReadError.TheVariants as read_error
use Rattle.nm_reader.specs.declared.fault.Code.{Code}
use Rattle.nm_reader.specs.declared.fault.Fault.{Fault}
use Rattle.nm_reader.proofs.Inputs.{shorter}

-- ---- how many pieces a cutting may have does not matter

SameCut : ℕ → Type 0
SameCut most = (other : ℕ) (last : Bool) (offset : ℕ) (bytes : List ℕ) → length bytes < most → length bytes < other → cut_within most last offset bytes ≡ cut_within other last offset bytes

same_behind : (most other : ℕ) (last : Bool) (offset : ℕ) (bytes : List ℕ) (seen : Read Piece) → SameCut most → piece_at bytes last ≡ seen → length bytes < suc most → length bytes < suc other
    → cut_behind last offset bytes seen (λ b. cut_within most last (offset + (length bytes - length b)) b)
    ≡ cut_behind last offset bytes seen (λ b. cut_within other last (offset + (length bytes - length b)) b)
unfolding SameCut
same_behind most other last offset bytes (Ok read) same is short enough =
    let less : length read.1 < length bytes = shorter bytes last read.0 read.1 ((exact.found bytes last read.0 read.1).0 is) in
    let behind : length read.1 < most = omega arith in
    let also : length read.1 < other = omega arith in
    ap (λ (c : Cutting). with_piece offset read.0 c) (same other last (offset + (length bytes - length read.1)) read.1 behind also)
same_behind most other last offset bytes (Err why) same is short enough = refl

same_cut : (most : ℕ) → SameCut most
unfolding SameCut cut_within
same_cut zero other last offset bytes short enough = absurd (omega arith)
same_cut (suc most) zero last offset bytes short enough = absurd (omega arith)
same_cut (suc most) (suc other) last offset bytes short enough = same_behind most other last offset bytes (piece_at bytes last) (same_cut most) refl short enough

-- ---- the input, the next piece, and the end

mark_within : (input : List ℕ) → mark_length input ≤ length input
mark_within [] = omega arith
mark_within (a ∷ []) = grind arith
mark_within (a ∷ b ∷ []) = grind arith
mark_within (a ∷ b ∷ c ∷ rest) = grind arith

offset_of : (input : List ℕ) → length input - length (drop (mark_length input) input) ≡ mark_length input
offset_of input = omega (arith, length-drop (mark_length input) input, mark_within input)

pub cut_whole : (last : Bool) (input : List ℕ) → cut_rest last (length input) (drop (mark_length input) input) ≡ cut last input
unfolding cut_rest SameCut
cut_whole last input =
    let rest : List ℕ = drop (mark_length input) input in
    let short : length rest < suc (length input) = omega (arith, length-drop (mark_length input) input) in
    let enough : length rest < suc (length rest) = omega arith in
    ap (λ (o : ℕ). cut_within (suc (length rest)) last o rest) (offset_of input)
    ∙ same_cut (suc (length rest)) (suc (length input)) last (mark_length input) rest enough short

step_of : (most : ℕ) (last : Bool) (offset : ℕ) (bytes : List ℕ)
    → cut_within (suc most) last offset bytes ≡ cut_behind last offset bytes (piece_at bytes last) (λ b. cut_within most last (offset + (length bytes - length b)) b)
unfolding cut_within
step_of most last offset bytes = refl

pub behind_shorter : (last : Bool) (bytes : List ℕ) (piece : Piece) (behind : List ℕ) → piece_at bytes last ≡ Ok (piece, behind) → length behind < length bytes
behind_shorter last bytes piece behind is = shorter bytes last piece behind ((exact.found bytes last piece behind).0 is)

cut_first : (last : Bool) (total : ℕ) (bytes : List ℕ) (piece : Piece) (behind : List ℕ) → length bytes ≤ total → piece_at bytes last ≡ Ok (piece, behind)
    → cut_rest last total bytes ≡ with_piece (total - length bytes) piece (cut_rest last total behind)
unfolding cut_rest SameCut
cut_first last total bytes piece behind within is =
    let less : length behind < length bytes = behind_shorter last bytes piece behind is in
    let enough : length behind < suc (length behind) = omega arith in
    let moved : total - length bytes + (length bytes - length behind) ≡ total - length behind = omega arith in
    step_of (length bytes) last (total - length bytes) bytes
    ∙ ap (λ (seen : Read Piece). cut_behind last (total - length bytes) bytes seen (λ b. cut_within (length bytes) last (total - length bytes + (length bytes - length b)) b)) is
    ∙ ap (λ (o : ℕ). with_piece (total - length bytes) piece (cut_within (length bytes) last o behind)) moved
    ∙ ap (λ (c : Cutting). with_piece (total - length bytes) piece c) (same_cut (length bytes) (suc (length behind)) last (total - length behind) behind less enough)

pub cut_last : (last : Bool) (total : ℕ) (bytes : List ℕ) (why : Unread) → piece_at bytes last ≡ Err why → cut_rest last total bytes ≡ end_at last (total - length bytes) bytes why
unfolding cut_rest
cut_last last total bytes why is =
    step_of (length bytes) last (total - length bytes) bytes
    ∙ ap (λ (seen : Read Piece). cut_behind last (total - length bytes) bytes seen (λ b. cut_within (length bytes) last (total - length bytes + (length bytes - length b)) b)) is

-- ---- what is due

taken_on : (context now : Context) (offset : ℕ) (piece : Piece) (cutting : Cutting) → IsBehind context piece now → due_from context (with_piece offset piece cutting) ≡ due_from now cutting
taken_on context now offset piece cutting is =
    ap (λ (code : Option Code). read_of (fault_or offset code (fault_from (after context piece) cutting.pieces cutting.end cutting.rest)) (document_of (after_all (after context piece) (pieces_cut cutting)).told)) is.0
    ∙ ap (λ (c : Context). due_from c cutting) (sym is.1)

refused_there : (context : Context) (offset : ℕ) (piece : Piece) (cutting : Cutting) (code : Code) → code_at context (Spelt piece) ≡ Some code
    → due_from context (with_piece offset piece cutting) ≡ Err (read_error.Fault (record { at = offset; code = code }))
refused_there context offset piece cutting code is =
    ap (λ (code : Option Code). read_of (fault_or offset code (fault_from (after context piece) cutting.pieces cutting.end cutting.rest)) (document_of (after_all (after context piece) (pieces_cut cutting)).told)) is

-- a piece that is taken leaves what is due
pub due_on : (last : Bool) (total : ℕ) (bytes : List ℕ) (piece : Piece) (behind : List ℕ) (context now : Context) → length bytes ≤ total → piece_at bytes last ≡ Ok (piece, behind) → IsBehind context piece now
    → due_from now (cut_rest last total behind) ≡ due_from context (cut_rest last total bytes)
due_on last total bytes piece behind context now within read is =
    sym (ap (due_from context) (cut_first last total bytes piece behind within read) ∙ taken_on context now (total - length bytes) piece (cut_rest last total behind) is)

-- and one that is refused decides it
pub due_refused : (last : Bool) (total : ℕ) (bytes : List ℕ) (piece : Piece) (behind : List ℕ) (context : Context) (code : Code) → length bytes ≤ total → piece_at bytes last ≡ Ok (piece, behind) → code_at context (Spelt piece) ≡ Some code
    → due_from context (cut_rest last total bytes) ≡ Err (read_error.Fault (record { at = total - length bytes; code = code }))
due_refused last total bytes piece behind context code within read is =
    ap (due_from context) (cut_first last total bytes piece behind within read) ∙ refused_there context (total - length bytes) piece (cut_rest last total behind) code is

-- ---- the turns of the loop over pieces

pub due_whole : (last : Bool) (input rest : List ℕ) (context : Context) → context ≡ beginning → rest ≡ drop (mark_length input) input
    → due_from context (cut_rest last (length input) rest) ≡ due_from beginning (cut last input)
due_whole last input rest context same is =
    ap (λ (c : Context). due_from c (cut_rest last (length input) rest)) same
    ∙ ap (λ (r : List ℕ). due_from beginning (cut_rest last (length input) r)) is
    ∙ ap (due_from beginning) (cut_whole last input)

failed : ReadError → Result Document ReadError
failed error = Err error

rule_due : (last : Bool) (total : ℕ) (bytes : List ℕ) (piece : Piece) (behind : List ℕ) (context : Context) (fault : Fault) (code : Option Code) → length bytes ≤ total → piece_at bytes last ≡ Ok (piece, behind)
    → code_at context (Spelt piece) ≡ code → refusal_at (total - length bytes) code ≡ Some (read_error.Fault fault) → due_from context (cut_rest last total bytes) ≡ Err (read_error.Fault fault)
unfolding failed
rule_due last total bytes piece behind context fault None within read is refused = absurd (cc)
rule_due last total bytes piece behind context fault (Some code) within read is refused =
    let same : read_error.Fault (record { at = total - length bytes; code = code }) ≡ read_error.Fault fault = cc in
    due_refused last total bytes piece behind context code within read is ∙ ap (λ (e : ReadError). failed e) same

pub error_due : (last : Bool) (total : ℕ) (bytes : List ℕ) (piece : Piece) (behind : List ℕ) (context : Context) (error : ReadError) (due : Result Document ReadError) → length bytes ≤ total → piece_at bytes last ≡ Ok (piece, behind)
    → due_from context (cut_rest last total bytes) ≡ due
    → RefusalIsDue wants_memory error (refusal_at (total - length bytes) (code_at context (Spelt piece))) → IsDue wants_memory (Err error) due
error_due last total bytes piece behind context (read_error.Fault fault) due within read is refused =
    sym is ∙ rule_due last total bytes piece behind context fault (code_at context (Spelt piece)) within read refl refused
error_due last total bytes piece behind context read_error.NoMemory due within read is refused = tt

pub end_due : (last : Bool) (total : ℕ) (bytes : List ℕ) (why : Unread) (context : Context) (result due : Result Document ReadError) → piece_at bytes last ≡ Err why
    → due_from context (cut_rest last total bytes) ≡ due → IsDue wants_memory result (due_from context (end_at last (total - length bytes) bytes why)) → IsDue wants_memory result due
end_due last total bytes why context result due unread is ends =
    subst (λ (d : Result Document ReadError). IsDue wants_memory result d) (sym (ap (due_from context) (cut_last last total bytes why unread)) ∙ is) ends
