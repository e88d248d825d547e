-- One piece, and one cutting.
use Rattle.std.proofs.Common.{◌≡◌, ℕ, zero, suc, ◌+◌, ◌-◌, ◌<◌, Bool, true, List, [], ◌∷◌, ◌++◌, length, drop, Ok, Err, refl, sym, ap, subst, ◌∙◌, arith, length-append}
use Rattle.nm_piece.specs.declared.piece.Piece.{Piece}
use Rattle.nm_piece.specs.declared.unread.Unread.{Unread}
use Rattle.nm_piece.specs.declared.unread.Unread.TheVariants.{Unfinished, NoPiece, NoMemory}
use Rattle.nm_piece.specs.Cutting.{IsCutFrom, Placed, mark_length}
use Rattle.nm_piece.specs.Laws.{OneCutting, OnePieceIsSpelt, ReadingIsExact}
use Rattle.nm_piece.specs.Piece.{piece_at}
use Rattle.nm_piece.specs.Reading.{Read}
use Rattle.nm_piece.specs.Spells.{IsSpeltAt, IsUnfinished, MayEndBefore, NoneIsSpeltAt}
use Rattle.nm_piece.proofs.Pieces.{front_not_none, piece_found, piece_given, piece_open, piece_pure}
use Rattle.nm_piece.proofs.Readings.{ok_parts}

pub one_piece : OnePieceIsSpelt
one_piece bytes last piece other rest behind s t = ok_parts piece other rest behind (sym (piece_given bytes last piece rest s) ∙ piece_given bytes last other behind t)

-- where nothing is given, nothing is spelt
none_given : (bytes : List ℕ) (last : Bool) (unread : Unread) → piece_at bytes last ≡ Err unread → NoneIsSpeltAt bytes last
none_given bytes last unread e piece rest s = let f : ◌≡◌ {A = Read Piece} (Ok (piece, rest)) (Err unread) = sym (piece_given bytes last piece rest s) ∙ e in cc

pub exact : ReadingIsExact
exact = record {
  found = λ bytes last piece rest. (piece_found bytes last piece rest, piece_given bytes last piece rest);
  unfinished_there = λ bytes last. (λ e. record { none = none_given bytes last Unfinished e; front = piece_open bytes last e }, to_unfinished bytes last (piece_at bytes last) refl);
  nowhere = λ bytes last. (λ e. (none_given bytes last NoPiece e, λ u. front_not_none bytes last u.front e), to_none bytes last (piece_at bytes last) refl);
}
  where
    to_unfinished : (bytes : List ℕ) (last : Bool) (seen : Read Piece) → piece_at bytes last ≡ seen → IsUnfinished bytes last → piece_at bytes last ≡ Err Unfinished
    to_unfinished bytes last (Ok read) s u = absurd (u.none read.0 read.1 (piece_found bytes last read.0 read.1 s))
    to_unfinished bytes last (Err Unfinished) s u = s
    to_unfinished bytes last (Err NoPiece) s u = absurd (front_not_none bytes last u.front s)
    to_unfinished bytes last (Err NoMemory) s u = absurd (piece_pure bytes last s)

    to_none : (bytes : List ℕ) (last : Bool) (seen : Read Piece) → piece_at bytes last ≡ seen → NoneIsSpeltAt bytes last × (IsUnfinished bytes last → ⊥) → piece_at bytes last ≡ Err NoPiece
    to_none bytes last (Ok read) s n = absurd (n.0 read.0 read.1 (piece_found bytes last read.0 read.1 s))
    to_none bytes last (Err Unfinished) s n = absurd (n.1 (record { none = n.0; front = piece_open bytes last s }))
    to_none bytes last (Err NoPiece) s n = s
    to_none bytes last (Err NoMemory) s n = absurd (piece_pure bytes last s)

-- ---- cuttings

shorter : (bytes : List ℕ) (piece : Piece) (rest : List ℕ) → IsSpeltAt bytes true piece rest → length rest < length bytes
shorter bytes piece rest s = by s.front s.whole s.ends
  where
    by : (front : List ℕ) → bytes ≡ front ++ rest → MayEndBefore front rest true → length rest < length bytes
    by [] w e = absurd e
    by (b ∷ front) w e = omega (arith, ap length w, length-append (b ∷ front) rest)

cut_within : (count offset : ℕ) (bytes : List ℕ) → length bytes < count → (pieces : List Placed) × (rest : List ℕ) × IsCutFrom offset bytes pieces rest
cut_within zero offset bytes lt = absurd (omega arith)
cut_within (suc count) offset bytes lt = by (piece_at bytes true) refl (λ o b l. cut_within count o b l)
  where
    by : (seen : Read Piece) → piece_at bytes true ≡ seen → ((o : ℕ) (b : List ℕ) → length b < count → (pieces : List Placed) × (rest : List ℕ) × IsCutFrom o b pieces rest) → (pieces : List Placed) × (rest : List ℕ) × IsCutFrom offset bytes pieces rest
    by (Ok read) s go =
        let found = piece_found bytes true read.0 read.1 s in
        let less = shorter bytes read.0 read.1 found in
        let next = go (offset + (length bytes - length read.1)) read.1 (omega arith) in
        (record { piece = read.0; offset = offset } ∷ next.0, next.1, (read.1, refl, found, next.2))
    by (Err unread) s go = ([], bytes, (refl, none_given bytes true unread s))

one_from : (offset : ℕ) (bytes : List ℕ) (pieces others : List Placed) (rest behind : List ℕ) → IsCutFrom offset bytes pieces rest → IsCutFrom offset bytes others behind → (pieces ≡ others) × (rest ≡ behind)
one_from offset bytes [] [] rest behind c d = (refl, sym c.0 ∙ d.0)
one_from offset bytes [] (placed ∷ others) rest behind c d = absurd (subst (λ (t : List ℕ). NoneIsSpeltAt t true) (sym c.0) c.1 placed.piece d.0 d.2)
one_from offset bytes (placed ∷ pieces) [] rest behind c d = absurd (subst (λ (t : List ℕ). NoneIsSpeltAt t true) (sym d.0) d.1 placed.piece c.0 c.2)
one_from offset bytes (placed ∷ pieces) (other ∷ others) rest behind c d =
    let o = one_piece bytes true placed.piece other.piece c.0 d.0 c.2 d.2 in
    let r = one_from (offset + (length bytes - length d.0)) d.0 pieces others rest behind (subst (λ (t : List ℕ). IsCutFrom (offset + (length bytes - length t)) t pieces rest) o.1 c.3) d.3 in
    (joined o.0 (c.1 ∙ sym d.1) r.0, r.1)
  where
    joined : placed.piece ≡ other.piece → placed.offset ≡ other.offset → pieces ≡ others → placed ∷ pieces ≡ other ∷ others
    joined p q r = ap (λ (x : Piece). record { piece = x; offset = placed.offset } ∷ pieces) p ∙ ap (λ (x : ℕ). record { piece = other.piece; offset = x } ∷ pieces) q ∙ ap (λ (x : List Placed). other ∷ x) r

pub one_cutting : OneCutting
one_cutting = record {
  some = λ input. cut_within (suc (length (drop (mark_length input) input))) (mark_length input) (drop (mark_length input) input) (omega arith);
  one = λ input pieces others rest behind c d. one_from (mark_length input) (drop (mark_length input) input) pieces others rest behind c d;
}
