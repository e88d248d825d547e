-- The definitions at worked values.
use Rattle.std.specs.Prelude.{◌≡◌, true, false, [], ◌∷◌, Some, refl}
use Rattle.std.proofs.Common.{lit≤, lit<}
use Rattle.nm_base.specs.Faults.{one_more, IsRisen}
use Rattle.nm_base.specs.Plan.{plan_of, fails_next}
use Rattle.nm_base.specs.Written.{AppendsFront}

-- a fault is counted up to the end of a `u64`, and there the count stays
counts_up : one_more 4 ≡ 5
counts_up = refl

stays_at_end : one_more 18446744073709551615 ≡ 18446744073709551615
stays_at_end = refl

rises : IsRisen 4 5
rises = lit≤ tt

is_risen_at_end : IsRisen 18446744073709551615 18446744073709551615
is_risen_at_end = lit≤ tt

-- of a plan that lists the calls 0 and 2, the call 1 succeeds
first_call_fails : fails_next (plan_of (0 ∷ 2 ∷ [])) ≡ true
first_call_fails = refl

second_call_succeeds : fails_next (record (plan_of (0 ∷ 2 ∷ [])) { calls = 1 }) ≡ false
second_call_succeeds = refl

-- of a piece of two bytes one was appended
one_of_two : AppendsFront (Some (1 ∷ [])) (Some (1 ∷ 2 ∷ [])) (2 ∷ 3 ∷ [])
one_of_two = (1, lit< tt, refl)
