-- Worked examples of the definitions, computed.
use Rattle.std.specs.Prelude.{◌≡◌, ℕ, ◌==◌, Bool, true, false, codes, Some, Ok, Err, refl}
use Rattle.nm_terms.specs.Bytes.{is_between, is_digit, is_letter, is_visible, same_text}
use Rattle.nm_terms.specs.Due.{IsDue, RefusalIsDue}

-- errors that are numbers, where 0 is want of memory
abbrev wants_memory : ℕ → Bool
wants_memory error = error == 0

value_is_due : IsDue {X = ℕ} wants_memory (Ok 5) (Ok 5)
value_is_due = refl

refusal_is_due : IsDue {X = ℕ} wants_memory (Err 7) (Err 7)
refusal_is_due = refl

memory_runs_out : IsDue {X = ℕ} wants_memory (Err 0) (Ok 5)
memory_runs_out = tt

late_refusal : RefusalIsDue wants_memory 7 (Some 7)
late_refusal = refl

below : is_between 2 5 1 ≡ false
below = refl

lowest : is_between 2 5 2 ≡ true
lowest = refl

highest : is_between 2 5 5 ≡ true
highest = refl

above : is_between 2 5 6 ≡ false
above = refl

letter : is_letter 90 ≡ true
letter = refl

bracket_behind_z : is_letter 91 ≡ false
bracket_behind_z = refl

nine : is_digit 57 ≡ true
nine = refl

space : is_visible 32 ≡ false
space = refl

texts_alike : same_text (codes "ab") (codes "ab") ≡ true
texts_alike = refl

longer_text : same_text (codes "ab") (codes "abc") ≡ false
longer_text = refl
