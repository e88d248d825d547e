-- When a result is the one that is due, though memory may run out.
use Rattle.std.specs.Prelude.{◌≡◌, Bool, true, false, Option, Some, Result, Ok, Err}

-- the claim, unless memory ran out
abbrev pub OrWant : Bool → Type 0 → Type 0
OrWant true claim = Unit {0}
OrWant false claim = claim

-- what was returned, seen by `view`, is the value or the refusal that is due; want of memory says nothing
abbrev pub IsDueBy : {X Y E : Type 0} → (E → Bool) → (X → Y) → Result X E → Result Y E → Type 0
IsDueBy wants_memory view (Ok value) due = due ≡ Ok (view value)
IsDueBy wants_memory view (Err error) due = OrWant (wants_memory error) (due ≡ Err error)

-- what was returned is the value or the refusal that is due; want of memory says nothing
abbrev pub IsDue : {X E : Type 0} → (E → Bool) → Result X E → Result X E → Type 0
IsDue wants_memory result due = IsDueBy wants_memory (λ value. value) result due

-- the refusal is the one that is due; want of memory says nothing
abbrev pub RefusalIsDue : {E : Type 0} → (E → Bool) → E → Option E → Type 0
RefusalIsDue wants_memory error due = OrWant (wants_memory error) (due ≡ Some error)
