-- The fault of an input is judged on the pieces that it is cut into, and on what stands behind them.
use Rattle.std.proofs.Common.{◌≡◌, ◌≤◌, ◌<◌, ℕ, zero, suc, ◌+◌, ◌-◌, List, [], ◌∷◌, length, drop, take, Bool, true, false, ◌&&◌, nat_eq, nat_le, if◌then◌else◌, Ok, Err, refl, sym, ◌∙◌, arith}
use Rattle.std.proofs.lemmas.Bool.Decides.{nat_tests}
use Rattle.std.proofs.lemmas.List.{length-drop}
use Rattle.std.specs.List.{starts_with}
use Rattle.nm_model.specs.Limits.{longest_document}
use Rattle.nm_piece.proofs.Cuttings.{exact}
use Rattle.nm_piece.specs.Cutting.{IsCutFrom, byte_order_mark, mark_length}
use Rattle.nm_piece.specs.Piece.{piece_at}
use Rattle.nm_piece.specs.Reading.{Read}
use Rattle.nm_piece.specs.Spells.{IsSpeltAt, IsUnfinished}
use Rattle.nm_piece.specs.declared.piece.Piece.{Piece}
use Rattle.nm_piece.specs.declared.unread.Unread.{Unread}
use Rattle.nm_piece.specs.declared.unread.Unread.TheVariants as unread
use Rattle.nm_reader.specs.Cutting.{Cutting}
use Rattle.nm_reader.specs.Input.{cut, cut_behind, cut_within, rest_of}
use Rattle.nm_reader.specs.Laws.{FaultsAreJudgedOnTheCutting, IsLeftOver, RestIs}
use Rattle.nm_reader.proofs.Inputs.{none_read, shorter}

-- the bytes at the offset are cut into these pieces, and the rest stands where they end
record IsCutTo (offset : ℕ) (bytes : List ℕ) (cutting : Cutting) : Type 0 where
  rest : List ℕ
  pieces : IsCutFrom offset bytes cutting.pieces rest
  end : cutting.end + length rest ≡ offset + length bytes
  left : RestIs cutting.rest rest

not_unfinished : (bytes : List ℕ) (why : Unread) → piece_at bytes true ≡ Err why → (why ≡ unread.Unfinished → ⊥) → IsUnfinished bytes true → ⊥
not_unfinished bytes why is other unfinished =
    let read : ◌≡◌ {A = Read Piece} (Err unread.Unfinished) (Err why) = sym ((exact.unfinished_there bytes true).1 unfinished) ∙ is in
    other (cc)

rest_is : (bytes : List ℕ) (why : Unread) → piece_at bytes true ≡ Err why → RestIs (rest_of bytes why) bytes
rest_is [] why is = refl
rest_is (byte ∷ bytes) unread.Unfinished is = (omega arith, (exact.unfinished_there (byte ∷ bytes) true).0 is)
rest_is (byte ∷ bytes) unread.NoPiece is = (omega arith, none_read (byte ∷ bytes) unread.NoPiece is, not_unfinished (byte ∷ bytes) unread.NoPiece is (λ e. cc))
rest_is (byte ∷ bytes) unread.NoMemory is = (omega arith, none_read (byte ∷ bytes) unread.NoMemory is, not_unfinished (byte ∷ bytes) unread.NoMemory is (λ e. cc))

CutsAll : ℕ → Type 0
CutsAll most = (offset : ℕ) (bytes : List ℕ) → length bytes < most → IsCutTo offset bytes (cut_within most true offset bytes)

cuts_behind : (most offset : ℕ) (bytes : List ℕ) (seen : Read Piece) → CutsAll most → length bytes < suc most → piece_at bytes true ≡ seen
    → IsCutTo offset bytes (cut_behind true offset bytes seen (λ b. cut_within most true (offset + (length bytes - length b)) b))
unfolding CutsAll
cuts_behind most offset bytes (Ok read) cuts short is =
    let found : IsSpeltAt bytes true read.0 read.1 = (exact.found bytes true read.0 read.1).0 is in
    let less : length read.1 < length bytes = shorter bytes true read.0 read.1 found in
    let others = cuts (offset + (length bytes - length read.1)) read.1 (omega arith) in
    record {
      rest = others.rest;
      pieces = (read.1, refl, found, others.pieces);
      end = omega (arith, others.end);
      left = others.left;
    }
cuts_behind most offset bytes (Err why) cuts short is = record {
  rest = bytes;
  pieces = (refl, none_read bytes why is);
  end = refl;
  left = rest_is bytes why is;
}

cuts_all : (most : ℕ) → CutsAll most
unfolding CutsAll cut_within
cuts_all zero offset bytes short = absurd (omega arith)
cuts_all (suc most) offset bytes short = cuts_behind most offset bytes (piece_at bytes true) (cuts_all most) short refl

-- a byte order mark is no longer than the input that begins with it
mark_within : (input : List ℕ) → mark_length input ≤ length input
mark_within [] = omega arith
mark_within (first ∷ []) = elim (nat_eq 0xEF first) as (λ t. (if t && false then 3 else 0) ≤ length (first ∷ [])) [ true ↦ omega arith | false ↦ omega arith ]
mark_within (first ∷ second ∷ []) =
    elim (nat_eq 0xEF first) as (λ t. (if t && (nat_eq 0xBB second && false) then 3 else 0) ≤ length (first ∷ second ∷ [])) [
      | true ↦ elim (nat_eq 0xBB second) as (λ t. (if t && false then 3 else 0) ≤ length (first ∷ second ∷ [])) [ true ↦ omega arith | false ↦ omega arith ]
      | false ↦ omega arith
    ]
mark_within (first ∷ second ∷ third ∷ others) =
    elim (starts_with nat_eq (first ∷ second ∷ third ∷ others) byte_order_mark) as (λ t. (if t then 3 else 0) ≤ length (first ∷ second ∷ third ∷ others)) [
      | true ↦ omega arith
      | false ↦ omega arith
    ]

whole_cut : (input : List ℕ) → IsLeftOver input (cut true input)
unfolding CutsAll
whole_cut input =
    let within = mark_within input in
    let size = length-drop (mark_length input) input in
    let cuts = cuts_all (suc (length input)) (mark_length input) (drop (mark_length input) input) (omega (arith, size)) in
    record { rest = cuts.rest; pieces = cuts.pieces; end = omega (arith, cuts.end, size, within); left = cuts.left }

cut_short : (input : List ℕ) (short : Bool) → nat_le (length input) longest_document ≡ short → length input ≤ longest_document
    → IsLeftOver input (if short then cut true input else cut false (take longest_document input))
cut_short input true is within = whole_cut input
cut_short input false is within = absurd (grind (arith, nat_tests))

pub faults_are_judged_on_the_cutting : FaultsAreJudgedOnTheCutting
faults_are_judged_on_the_cutting input within = cut_short input (nat_le (length input) longest_document) refl within
