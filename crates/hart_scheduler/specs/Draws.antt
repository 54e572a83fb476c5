-- Drawn numbers: those of a linear congruential generator that begins with a seed.
use Rattle.std.specs.Prelude.{ℕ, zero, suc, ◌+◌, ◌*◌, ◌/◌, ◌%◌, ◌^◌}

-- the state after one draw more
abbrev pub next_state : ℕ → ℕ
next_state state = (state * 6364136223846793005 + 1442695040888963407) % 2 ^ 64

-- the state of a seed after so many draws
abbrev pub state_after : ℕ → ℕ → ℕ
state_after seed zero = seed
state_after seed (suc n) = next_state (state_after seed n)

-- the number that a draw gives, by the state that it leaves: the upper half of its 64 bits
abbrev pub number_in : ℕ → ℕ
number_in state = state / 2 ^ 32

-- the drawn numbers of a seed, numbered from 1
abbrev pub drawn_number : ℕ → ℕ → ℕ
drawn_number seed n = number_in (state_after seed n)
