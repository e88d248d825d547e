-- Words that are no form, by their number.
use Rattle.std.proofs.Common.{◌≡◌, ℕ, ◌<◌, ◌≤◌, List, [], ◌∷◌, length, None, arith, refl}
use Rattle.nm_cli.specs.CommandLine.{form_of}

pub two_words : (words : List (List ℕ)) → 2 ≤ length words → length words < 3 → None ≡ form_of words
two_words [] some few = absurd (omega arith)
two_words (word ∷ []) some few = absurd (omega arith)
two_words (word ∷ other ∷ []) some few = refl
two_words (word ∷ other ∷ third ∷ others) some few = absurd (omega arith)

pub many_words : (words : List (List ℕ)) → 4 ≤ length words → None ≡ form_of words
many_words [] many = absurd (omega arith)
many_words (word ∷ []) many = absurd (omega arith)
many_words (word ∷ other ∷ []) many = absurd (omega arith)
many_words (word ∷ other ∷ third ∷ []) many = absurd (omega arith)
many_words (word ∷ other ∷ third ∷ fourth ∷ others) many = refl
