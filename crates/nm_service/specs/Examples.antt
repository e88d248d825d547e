-- Worked examples of the definitions, computed.
use Rattle.std.specs.Prelude.{◌≡◌, [], ◌∷◌, codes, false, true, None, Some, refl}
use Rattle.nm_base.specs.Plan.{plan_of}
use Rattle.nm_service.specs.Arguments.{serve_form}
use Rattle.nm_service.specs.Door.{IsNext}
use Rattle.nm_service.specs.MemoryDoor.{hall_of, handed_out, refuses_next}
use Rattle.nm_service.specs.MemoryLink.{wire_of}

-- ---- the words of the command line

words : serve_form (codes "serve" ∷ codes "8080" ∷ codes "1" ∷ codes "2" ∷ []) ≡ Some (8080, 1, 2)
words = refl

largest_numbers : serve_form (codes "serve" ∷ codes "65535" ∷ codes "32" ∷ codes "1000000" ∷ []) ≡ Some (65535, 32, 1000000)
largest_numbers = refl

port_too_large : serve_form (codes "serve" ∷ codes "65536" ∷ codes "1" ∷ codes "1" ∷ []) ≡ None
port_too_large = refl

no_worker : serve_form (codes "serve" ∷ codes "80" ∷ codes "0" ∷ codes "1" ∷ []) ≡ None
no_worker = refl

too_many_workers : serve_form (codes "serve" ∷ codes "80" ∷ codes "33" ∷ codes "1" ∷ []) ≡ None
too_many_workers = refl

too_many_connections : serve_form (codes "serve" ∷ codes "80" ∷ codes "1" ∷ codes "1000001" ∷ []) ≡ None
too_many_connections = refl

leading_zero : serve_form (codes "serve" ∷ codes "080" ∷ codes "1" ∷ codes "1" ∷ []) ≡ None
leading_zero = refl

other_word : serve_form (codes "Serve" ∷ codes "80" ∷ codes "1" ∷ codes "1" ∷ []) ≡ None
other_word = refl

word_too_few : serve_form (codes "serve" ∷ codes "80" ∷ codes "1" ∷ []) ≡ None
word_too_few = refl

word_too_many : serve_form (codes "serve" ∷ codes "80" ∷ codes "1" ∷ codes "1" ∷ codes "1" ∷ []) ≡ None
word_too_many = refl

-- ---- doors

-- the first of two links is the next one
next_link : IsNext (Some (wire_of (codes "a") [] [] ∷ wire_of (codes "b") [] [] ∷ [])) (Some (wire_of (codes "b") [] [] ∷ [])) (wire_of (codes "a") [] [])
next_link = refl

-- of a door with one link, whose second call fails
nothing_handed_out : handed_out (hall_of (wire_of [] [] [] ∷ []) (1 ∷ [])) ≡ 0
nothing_handed_out = refl

first_call : refuses_next (hall_of (wire_of [] [] [] ∷ []) (1 ∷ [])) ≡ false
first_call = refl

second_call : refuses_next (record (hall_of (wire_of [] [] [] ∷ []) (1 ∷ [])) { plan = record (plan_of (1 ∷ [])) { calls = 1 } }) ≡ true
second_call = refl

no_link_left : refuses_next (hall_of [] []) ≡ true
no_link_left = refl
