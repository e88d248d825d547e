-- What a seat at the store has seen of the history, and the rule that the store keeps.
use Rattle.std.specs.Prelude.{◌≡◌, ℕ, ◌+◌, List, []}
use mathlib.Core.Option.{some}
use lib.ListN.{get_elem?}
use Rattle.nm_publish.specs.History.{History, GoesOn, history}
use Rattle.nm_publish.specs.declared.sight.Sight.{Sight}

abbrev pub sight : History → ℕ → Sight
sight front enterings = record { front = front; enterings = enterings }

-- nothing was seen yet
abbrev pub unseen : Sight
unseen = sight (history (record { number = 0; log_name = 0; cells_name = 0 }) []) 0

-- where something was seen, the history that is shown goes on from it
abbrev pub GoesOnFrom : Sight → History → Type 0
GoesOnFrom seen shown = ¬ (seen.front.pieces ≡ []) → GoesOn seen.front shown

-- the rule: what is shown goes on from what each seat has seen
abbrev pub GoesOnFromAll : List Sight → History → Type 0
GoesOnFromAll seats shown = (seat : ℕ) (seen : Sight) → get_elem? seats seat ≡ some seen → GoesOnFrom seen shown

-- an entering: what is shown goes on from what had been seen, and was then seen whole
pub record Enters (before : Sight) (shown : History) (after : Sight) : Type 0 where
  pub goes_on : GoesOnFrom before shown
  pub seen : after ≡ sight shown (before.enterings + 1)
