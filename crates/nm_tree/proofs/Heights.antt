-- A balanced tree of n pairs is not high: 2 ^ height is at most (n + 1) ^ 2.
use Rattle.std.proofs.Common.{◌≡◌, ℕ, ◌+◌, ◌*◌, ◌^◌, ◌≤◌, max, ◌∷◌, ◌++◌, length, add-one, inl, inr, arith, length-append}
use Rattle.std.proofs.Math.Nat.{max-eq_left, max-eq_right, mul-le-mul_left, two-pow-succ}
use Rattle.std.proofs.Math.Pow.{pow_mono}
use Rattle.std.proofs.lemmas.Bool.{cases_lt}
use Rattle.nm_tree.specs.Sight.{Sight, DifferByAtMost, IsShallow, fork_of}

-- twice a number that is within the square of either, once or twice, is within that of the sum
doubled-le-square : (y a b : ℕ) → y ≤ a * a → y ≤ 2 * (b * b) → 2 * y ≤ (a + b) * (a + b)
doubled-le-square y a b once twice =
    elim (cases_lt a b) [
      | inl less ↦ omega (arith, mul-le-mul_left {m = a} {n = b} a (omega arith))
      | inr more ↦ omega (arith, mul-le-mul_left {m = b} {n = a} b (omega arith))
    ]

pub power_of_next : (h : ℕ) → 2 ^ (h + 1) ≡ 2 ^ h + 2 ^ h
power_of_next h = rw add-one (two-pow-succ h)

fits-higher : (h k a b : ℕ) → h ≤ k + 1 → 2 ^ h ≤ a * a → 2 ^ k ≤ b * b → 2 ^ (h + 1) ≤ (a + b) * (a + b)
fits-higher h k a b near fits_a fits_b =
    let most : 2 ^ h ≤ 2 ^ (k + 1) = pow_mono near in
    let twice : 2 ^ h ≤ 2 * (b * b) = omega (arith, power_of_next k) in
    omega (arith, power_of_next h, doubled-le-square (2 ^ h) a b fits_a twice)

fits : (h k a b : ℕ) → h ≤ k + 1 → k ≤ h + 1 → 2 ^ h ≤ a * a → 2 ^ k ≤ b * b → 2 ^ (max h k + 1) ≤ (a + b) * (a + b)
fits h k a b near_h near_k fits_a fits_b =
    elim (cases_lt h k) [
      | inl less ↦ let below : h ≤ k = omega arith in rw (max-eq_right below) (let e : 2 ^ (k + 1) ≤ (b + a) * (b + a) = fits-higher k h b a near_k fits_b fits_a in omega arith)
      | inr more ↦ rw (max-eq_left more) (fits-higher h k a b near_h fits_a fits_b)
    ]

pub IsShallow-fork_of : {K V : Type 0} (left : Sight K V) (pair : K × V) (right : Sight K V) → DifferByAtMost 1 left right → IsShallow left → IsShallow right → IsShallow (fork_of left pair right)
IsShallow-fork_of left pair right near few_left few_right =
    let e : length (left.pairs ++ pair ∷ right.pairs) + 1 ≡ (length left.pairs + 1) + (length right.pairs + 1) = omega (arith, length-append left.pairs (pair ∷ right.pairs)) in
    rw e (fits left.height right.height (length left.pairs + 1) (length right.pairs + 1) near.0 near.1 few_left few_right)
