-- Bytes that spell pieces one behind the other are cut into these pieces.
use Rattle.std.proofs.Common.{◌≡◌, ℕ, ◌+◌, ◌-◌, List, [], ◌∷◌, ◌++◌, length, map, true, ◌⊎◌, inl, inr, refl, ap}
use Rattle.nm_piece.specs.declared.piece.Piece.{Piece}
use Rattle.nm_piece.specs.Cutting.{Placed, IsCutFrom}
use Rattle.nm_piece.specs.Spells.{IsSpeltAt, IsTagAhead, MayEndBefore, NoneIsSpeltAt, Spells}
use Rattle.nm_reader.specs.Cutting.{piece_placed}

-- the bytes are spellings of these pieces, up to their end
abbrev pub Spelt : List ℕ → List Piece → Type 0
Spelt bytes [] = bytes ≡ []
Spelt bytes (piece ∷ pieces) =
    (front : List ℕ) × (rest : List ℕ) × (bytes ≡ front ++ rest) × Spells front piece × MayEndBefore front rest true × Spelt rest pieces

-- nothing, or `<` and what may follow it
abbrev pub AtTag : List ℕ → Type 0
AtTag [] = Unit {0}
AtTag (byte ∷ bytes) = byte ≡ 60

-- ---- one piece in front

pub tag_then : (tail rest : List ℕ) (piece : Piece) (pieces : List Piece) → Spells (60 ∷ tail) piece → Spelt rest pieces → Spelt ((60 ∷ tail) ++ rest) (piece ∷ pieces)
tag_then tail rest piece pieces spells behind = (60 ∷ tail, rest, refl, spells, inl refl, behind)

pub run_then : (first : ℕ) (others rest : List ℕ) (piece : Piece) (pieces : List Piece) → Spells (first ∷ others) piece → AtTag rest → Spelt rest pieces
    → Spelt ((first ∷ others) ++ rest) (piece ∷ pieces)
run_then first others rest piece pieces spells at behind = (first ∷ others, rest, refl, spells, inr (ends rest at), behind)
  where
    ends : (rest : List ℕ) → AtTag rest → IsTagAhead rest ⊎ ((rest ≡ []) × (true ≡ true))
    ends [] at = inr (refl, refl)
    ends (byte ∷ rest) at = inl at

-- ---- cutting

none_at_end : NoneIsSpeltAt [] true
none_at_end piece rest is = by is.front is.whole is.ends
  where
    by : (front : List ℕ) → [] ≡ front ++ rest → MayEndBefore front rest true → ⊥
    by [] whole ends = ends
    by (byte ∷ front) whole ends = cc

-- the pieces, with their offsets
pub cut : (offset : ℕ) (bytes : List ℕ) (pieces : List Piece) → Spelt bytes pieces → (placed : List Placed) × (map piece_placed placed ≡ pieces) × IsCutFrom offset bytes placed []
cut offset bytes [] spelt = ([], refl, (spelt, none_at_end))
cut offset bytes (piece ∷ pieces) spelt =
    let front = spelt.0 in
    let rest = spelt.1 in
    let others = cut (offset + (length bytes - length rest)) rest pieces spelt.5 in
    let here : IsSpeltAt bytes true piece rest = record { front = front; whole = spelt.2; spelt = spelt.3; ends = spelt.4 } in
    (record { piece = piece; offset = offset } ∷ others.0, ap (λ (pieces : List Piece). piece ∷ pieces) others.1, (rest, refl, here, others.2))
