-- How many steps a way down a tree takes at most.
use Rattle.std.specs.Prelude.{ℕ, zero, suc, ◌+◌, ◌*◌, ◌^◌, ◌≤◌, if◌then◌else◌, nat_le}

-- the greatest number, up to a limit, of which the power of two is within a bound
abbrev pub greatest_power : ℕ → ℕ → ℕ
greatest_power bound zero = 0
greatest_power bound (suc limit) = if nat_le (2 ^ suc limit) bound then suc limit else greatest_power bound limit

-- the greatest b of which 2 ^ b is at most (n + 1) ^ 2
unfoldable pub depth_of : ℕ → ℕ
depth_of n = greatest_power ((n + 1) * (n + 1)) ((n + 1) * (n + 1))

-- the same said as a fact: its power is within the square, and so is that of no greater number
pub record IsDepth (n b : ℕ) : Type 0 where
  pub fits : 2 ^ b ≤ (n + 1) * (n + 1)
  pub greatest : (h : ℕ) → 2 ^ h ≤ (n + 1) * (n + 1) → h ≤ b
