-- What the calls of a door do to its lists of links.
use Rattle.std.specs.Prelude.{◌≡◌, ℕ, ◌+◌, List, [], ◌∷◌, ◌++◌, Option, None, Some, Result, Ok, Err}
use Rattle.nm_service.specs.declared.ended.Ended.{Ended}

-- where the links that come are told, this is the first of them, and it no longer comes
abbrev pub IsNext : {L : Type 0} → Option (List L) → Option (List L) → L → Type 0
IsNext None after link = Unit {0}
IsNext (Some coming) None link = ⊥
IsNext (Some coming) (Some rest) link = coming ≡ link ∷ rest

-- the next link is handed out, or no link is
abbrev pub HandsOut : {L E : Type 0} → Option (List L) → Option (List L) → ℕ → ℕ → Result L E → Type 0
HandsOut before after handed_before handed_after (Ok link) = IsNext before after link × (handed_after ≡ handed_before + 1)
HandsOut before after handed_before handed_after (Err error) = (after ≡ before) × (handed_after ≡ handed_before)

-- where the links that were closed are told, this is the last of them
abbrev pub EndsOne : {L : Type 0} → Option (List (L × Ended)) → Option (List (L × Ended)) → L → Ended → Type 0
EndsOne None after link ended = Unit {0}
EndsOne (Some before) None link ended = ⊥
EndsOne (Some before) (Some after) link ended = after ≡ before ++ (link, ended) ∷ []
