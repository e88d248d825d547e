-- The place of the first item that passes.
use Rattle.std.proofs.Common.{◌≡◌, ◌≤◌, ℕ, None, Some, cond, arith}
use Rattle.std.specs.Prelude.{nat_lt}
use Rattle.std.proofs.lemmas.Bool.Decides.{nat_tests}

-- where nothing passes, the place is the length
pub all_before : (place count : ℕ) → cond (nat_lt place count) (Some place) None ≡ None → place ≤ count → count ≡ place
all_before place count none within = grind (arith, nat_tests)
