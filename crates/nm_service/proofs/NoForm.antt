-- Words that are no form, for their number.
use Rattle.std.proofs.Common.{◌≡◌, ℕ, ◌<◌, ◌≤◌, List, [], ◌∷◌, length, None, refl, arith}
use Rattle.nm_service.specs.Arguments.{serve_form}

pub too_few : (words : List (List ℕ)) → length words < 4 → serve_form words ≡ None
too_few [] less = refl
too_few (a ∷ []) less = refl
too_few (a ∷ b ∷ []) less = refl
too_few (a ∷ b ∷ c ∷ []) less = refl
too_few (a ∷ b ∷ c ∷ d ∷ words) less = absurd (omega arith)

pub too_many : (words : List (List ℕ)) → 5 ≤ length words → serve_form words ≡ None
too_many [] more = absurd (omega arith)
too_many (a ∷ []) more = absurd (omega arith)
too_many (a ∷ b ∷ []) more = absurd (omega arith)
too_many (a ∷ b ∷ c ∷ []) more = absurd (omega arith)
too_many (a ∷ b ∷ c ∷ d ∷ []) more = absurd (omega arith)
too_many (a ∷ b ∷ c ∷ d ∷ e ∷ words) more = refl
