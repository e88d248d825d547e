-- The step that puts a piece behind the history keeps the rule of the book.
use Rattle.std.proofs.Common.{◌≡◌, ℕ, ◌+◌, ◌<◌, ◌==◌, Bool, true, false, List, [], ◌∷◌, ◌++◌, length, refl, ap, sym, subst, arith, inl, length-append, None}
use Rattle.std.proofs.lemmas.List.{append-nil}
use Rattle.std.proofs.lemmas.Bool.Decides.{nat_tests}
use mathlib.Core.List.{IsPrefix}
use prog.Atomic.{either}
use Rattle.logbook.specs.Pages.{Cell, cell, keeps, no_nib, step, Moves, Goes}
use Rattle.nm_publish.specs.declared.piece.Piece.{Piece}
use Rattle.nm_publish.specs.History.{IsCounted, Adds}
use Rattle.nm_publish.proofs.Fronts.{whole_front}

abbrev shown : List Piece → List Piece
shown pieces = []

abbrev moved : List Piece → List Piece → ℕ → Type 0
moved before after answer = Unit {0}

-- where the word holds `count`, and `is` says whether that is the count of all that was seen
add_goes : (pieces seen : List Piece) (piece : Piece) (old count : ℕ) → old + 1 ≡ length seen → count + 1 ≡ length pieces → IsPrefix seen pieces
    → (b : Bool) → (count == old) ≡ b
    → Goes IsCounted shown moved 0 (seen, (no_nib, None)) (λ n. either (n == old) (old + 1) n) (Adds (step 0 old (old + 1) piece) (seen, (no_nib, None))) ((count, true) ∷ []) pieces
add_goes pieces seen piece old count len all front true is =
    let here : count ≡ old = grind (arith, nat_tests) in
    let same : seen ≡ pieces = whole_front seen pieces front (omega arith) in
    let more : (old + 1) + 1 ≡ length (pieces ++ piece ∷ []) = omega (arith, length-append pieces (piece ∷ [])) in
    let n : either (count == old) (old + 1) count ≡ old + 1 = rw is refl in (
      keeps,
      piece ∷ [],
      None,
      tt,
      record { commits = old + 1; counted = more; words = ap (λ (k : ℕ). (k, true) ∷ []) n },
      inl (refl, refl),
      rw is (ap (λ w. w ++ piece ∷ []) (sym same)),
    )
add_goes pieces seen piece old count len all front false is =
    let none : pieces ++ [] ≡ pieces = append-nil pieces in
    let n : either (count == old) (old + 1) count ≡ count = rw is refl in
    let counted : count + 1 ≡ length (pieces ++ []) = rw none all in (
      keeps,
      [],
      None,
      tt,
      record { commits = count; counted = counted; words = ap (λ (k : ℕ). (k, true) ∷ []) n },
      inl (refl, refl),
      rw is counted,
    )

-- whatever the book is, the step puts the piece behind all that was seen, or finds that the history is longer
pub add_moves : (seen : List Piece) (piece : Piece) (old : ℕ) → old + 1 ≡ length seen
    → Moves IsCounted shown moved 0 (seen, (no_nib, None)) (λ n. either (n == old) (old + 1) n) (Adds (step 0 old (old + 1) piece) (seen, (no_nib, None)))
add_moves seen piece old len cells pieces kept front away =
    let P : List Cell → Type 0 = λ c. (0 < length c) × ((cell c 0).1 ≡ true)
    × Goes IsCounted shown moved 0 (seen, (no_nib, None)) (λ n. either (n == old) (old + 1) n) (Adds (step 0 old (old + 1) piece) (seen, (no_nib, None))) c pieces in
    subst P (sym kept.words) (omega arith, refl, add_goes pieces seen piece old kept.commits len kept.counted front (kept.commits == old) refl)
