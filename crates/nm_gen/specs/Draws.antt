-- Draws: a linear congruential generator modulo 2 ^ 64, of which the high bits are taken.
use Rattle.std.specs.Prelude.{ℕ, zero, suc, ◌+◌, ◌*◌, ◌^◌, ◌/◌, ◌%◌}

-- the state behind a state
abbrev pub next_state : ℕ → ℕ
next_state state = (state * 6364136223846793005 + 1442695040888963407) % 2 ^ 64

-- the state after so many draws
unfoldable pub state_after : ℕ → ℕ → ℕ
state_after state zero = state
state_after state (suc draws) = next_state (state_after state draws)

-- what is drawn of the numbers below a bound where a draw leaves this state
abbrev pub drawn : ℕ → ℕ → ℕ
drawn bound state = state / 2 ^ 33 % bound
