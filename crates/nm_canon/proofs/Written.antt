-- Blocks as they are written are cut into their pieces.
use Rattle.std.proofs.Common.{◌≡◌, ◌∙◌, ℕ, true, false, List, [], ◌∷◌, ◌++◌, inr, refl, sym, ap, subst, append_assoc}
use Rattle.nm_piece.specs.declared.piece.Piece.{Piece}
use Rattle.nm_piece.specs.declared.piece.Piece.TheVariants as piece
use Rattle.nm_piece.specs.Spells.{Spells, SpellsRun}
use Rattle.nm_text.specs.Escape.{text_spelling}
use Rattle.nm_reader.specs.Blocks.{Blocks, pieces_of, Element, Empty, End, Skip, Text}
use Rattle.nm_canon.proofs.Glue.{AtTag, Spelt, run_then, tag_then}
use Rattle.nm_canon.proofs.Tags.{IsRun, IsTagWritten, close_bytes, close_spelt, close_tail, open_bytes, open_spelt, open_tail, run_some, run_spelt}

-- the bytes that are written of blocks; nothing is written to be skipped
abbrev pub bytes_of : Blocks → List ℕ
bytes_of End = []
bytes_of (Skip behind) = bytes_of behind
bytes_of (Text text behind) = text_spelling text ++ bytes_of behind
bytes_of (Empty name attributes behind) = open_bytes name attributes true ++ bytes_of behind
bytes_of (Element name attributes inside behind) = open_bytes name attributes false ++ (bytes_of inside ++ (close_bytes name ++ bytes_of behind))

abbrev pub BeginsWithTag : Blocks → Type 0
BeginsWithTag End = Unit {0}
BeginsWithTag (Skip behind) = ⊥
BeginsWithTag (Text text behind) = ⊥
BeginsWithTag (Empty name attributes behind) = Unit {0}
BeginsWithTag (Element name attributes inside behind) = Unit {0}

-- the tags are sound, and no text follows another
abbrev pub CanBeWritten : Blocks → Type 0
CanBeWritten End = Unit {0}
CanBeWritten (Skip behind) = ⊥
CanBeWritten (Text text behind) = IsRun text × BeginsWithTag behind × CanBeWritten behind
CanBeWritten (Empty name attributes behind) = IsTagWritten name attributes × CanBeWritten behind
CanBeWritten (Element name attributes inside behind) = IsTagWritten name attributes × CanBeWritten inside × CanBeWritten behind

tag_ahead : (blocks : Blocks) (rest : List ℕ) → BeginsWithTag blocks → AtTag rest → AtTag (bytes_of blocks ++ rest)
tag_ahead End rest begins at = at
tag_ahead (Skip behind) rest begins at = absurd begins
tag_ahead (Text text behind) rest begins at = absurd begins
tag_ahead (Empty name attributes behind) rest begins at = refl
tag_ahead (Element name attributes inside behind) rest begins at = refl

-- four parts, and what follows them
regroup : (a b c d rest : List ℕ) → (a ++ (b ++ (c ++ d))) ++ rest ≡ a ++ (b ++ (c ++ (d ++ rest)))
regroup a b c d rest = simp append_assoc

pub spelt_before : (blocks : Blocks) (rest : List ℕ) (pieces : List Piece) → CanBeWritten blocks → AtTag rest → Spelt rest pieces → Spelt (bytes_of blocks ++ rest) (pieces_of blocks ++ pieces)
spelt_before End rest pieces written at behind = behind
spelt_before (Skip blocks) rest pieces written at behind = absurd written
spelt_before (Text text blocks) rest pieces written at behind =
    let some = run_some text written.0 in
    let others = spelt_before blocks rest pieces written.2 at behind in
    let spells : Spells (some.first ∷ some.others) (piece.Text text) = inr (subst (λ (bytes : List ℕ). SpellsRun bytes text) some.whole (run_spelt text written.0)) in
    let all = run_then some.first some.others (bytes_of blocks ++ rest) (piece.Text text) (pieces_of blocks ++ pieces) spells (tag_ahead blocks rest written.1 at) others in
    subst (λ (bytes : List ℕ). Spelt bytes (piece.Text text ∷ (pieces_of blocks ++ pieces)))
    (ap (λ (bytes : List ℕ). bytes ++ (bytes_of blocks ++ rest)) (sym some.whole) ∙ sym (append_assoc (text_spelling text) (bytes_of blocks) rest)) all
spelt_before (Empty name attributes blocks) rest pieces written at behind =
    let others = spelt_before blocks rest pieces written.1 at behind in
    let all = tag_then (open_tail name attributes true) (bytes_of blocks ++ rest) (piece.Open name attributes true) (pieces_of blocks ++ pieces) (open_spelt name attributes true written.0) others in
    subst (λ (bytes : List ℕ). Spelt bytes (piece.Open name attributes true ∷ (pieces_of blocks ++ pieces))) (sym (append_assoc (open_bytes name attributes true) (bytes_of blocks) rest)) all
spelt_before (Element name attributes inside blocks) rest pieces written at behind =
    let others = spelt_before blocks rest pieces written.2 at behind in
    let closes = tag_then (close_tail name) (bytes_of blocks ++ rest) (piece.Close name) (pieces_of blocks ++ pieces) (close_spelt name written.0.named) others in
    let within = spelt_before inside (close_bytes name ++ (bytes_of blocks ++ rest)) (piece.Close name ∷ (pieces_of blocks ++ pieces)) written.1 refl closes in
    let all = tag_then (open_tail name attributes false) (bytes_of inside ++ (close_bytes name ++ (bytes_of blocks ++ rest))) (piece.Open name attributes false)
    (pieces_of inside ++ (piece.Close name ∷ (pieces_of blocks ++ pieces))) (open_spelt name attributes false written.0) within in
    let joined : pieces_of inside ++ (piece.Close name ∷ (pieces_of blocks ++ pieces)) ≡ (pieces_of inside ++ (piece.Close name ∷ pieces_of blocks)) ++ pieces =
    sym (append_assoc (pieces_of inside) (piece.Close name ∷ pieces_of blocks) pieces) in
    let same : open_bytes name attributes false ++ (bytes_of inside ++ (close_bytes name ++ (bytes_of blocks ++ rest))) ≡ bytes_of (Element name attributes inside blocks) ++ rest =
    sym (regroup (open_bytes name attributes false) (bytes_of inside) (close_bytes name) (bytes_of blocks) rest) in
    subst (λ (bytes : List ℕ). Spelt bytes (pieces_of (Element name attributes inside blocks) ++ pieces)) same
    (subst (λ (more : List Piece). Spelt (open_bytes name attributes false ++ (bytes_of inside ++ (close_bytes name ++ (bytes_of blocks ++ rest)))) (piece.Open name attributes false ∷ more)) joined all)
