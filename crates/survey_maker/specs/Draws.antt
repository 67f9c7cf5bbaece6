-- Draws of numbers by a linear congruential generator: what seems to be drawn at random follows from the first state alone.
use Rattle.std.specs.Prelude.{ℕ, zero, suc, ◌+◌, ◌*◌, ◌/◌, ◌%◌, ◌^◌}

-- the state that follows a state
unfoldable pub next_state : ℕ → ℕ
next_state state = (state * 6364136223846793005 + 1442695040888963407) % 2 ^ 64

-- the state after so many draws
abbrev pub state_after : ℕ → ℕ → ℕ
state_after zero state = state
state_after (suc draws) state = next_state (state_after draws state)

-- what a state draws: a number below the bound, from the upper bits of the state
unfoldable pub drawn : ℕ → ℕ → ℕ
drawn state bound = (state / 2 ^ 33) % bound

-- what is drawn by the first, the second, .. draw behind a state, below the bound
abbrev pub draw : ℕ → ℕ → ℕ → ℕ
draw number state bound = drawn (state_after number state) bound
