-- What the definitions say of a few pairs.
use Rattle.std.specs.Prelude.{◌≡◌, ℕ, None, Some, [], ◌∷◌, List, true, false, nat_lt, if◌then◌else◌, refl}
use Rattle.std.specs.Ordering.{nat_cmp}
use Rattle.std.specs.declared.cmp.Ordering.{Ordering}
use Rattle.std.specs.declared.cmp.Ordering.TheVariants.{Less, Equal, Greater}
use Rattle.nm_tree.specs.Pairs.{value_at, with_pair, without, pairs_from}
use Rattle.nm_tree.specs.Sight.{Sight, bare, fork_of}
use Rattle.nm_tree.specs.Span.{pairs_within}

abbrev three : List (ℕ × ℕ)
three = (10, 1) ∷ (20, 2) ∷ (30, 3) ∷ []

a_value_is_found : value_at nat_cmp 20 three ≡ Some 2
a_value_is_found = refl

no_value_is_found : value_at nat_cmp 15 three ≡ None
no_value_is_found = refl

a_new_key_comes_to_its_place : with_pair nat_cmp (15, 9) three ≡ (10, 1) ∷ (15, 9) ∷ (20, 2) ∷ (30, 3) ∷ []
a_new_key_comes_to_its_place = refl

an_equal_key_gives_way : with_pair nat_cmp (20, 9) three ≡ (10, 1) ∷ (20, 9) ∷ (30, 3) ∷ []
an_equal_key_gives_way = refl

a_key_is_taken_out : without nat_cmp 20 three ≡ (10, 1) ∷ (30, 3) ∷ []
a_key_is_taken_out = refl

an_absent_key_takes_nothing_out : without nat_cmp 15 three ≡ three
an_absent_key_takes_nothing_out = refl

a_walk_begins_at_its_key : pairs_from nat_cmp 20 three ≡ (20, 2) ∷ (30, 3) ∷ []
a_walk_begins_at_its_key = refl

-- from 15 to 24
abbrev middle : ℕ → Ordering
middle key = if nat_lt key 15 then Less else (if nat_lt key 25 then Equal else Greater)

a_walk_ends_with_its_span : pairs_within middle three ≡ (20, 2) ∷ []
a_walk_ends_with_its_span = refl

abbrev low : Sight ℕ ℕ
low = record { pairs = (10, 1) ∷ []; height = 1; level = true }

abbrev high : Sight ℕ ℕ
high = record { pairs = (10, 1) ∷ (20, 2) ∷ []; height = 2; level = false }

a_fork_is_a_level_higher : fork_of low (20, 2) bare ≡ high
a_fork_is_a_level_higher = refl
