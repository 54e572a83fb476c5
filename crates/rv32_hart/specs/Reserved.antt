-- What each hart has reserved: the address of a word, or nothing.
use Rattle.std.specs.Prelude.{ℕ, ◌-◌, ◌%◌, Bool, false, List, map, Option, Some, None, nat_eq}
use Rattle.std.specs.Prelude.{is_some, count_by, if◌then◌else◌, slice_index_or, slice_set}

-- how many harts have reserved a word
abbrev pub count_held : List (Option ℕ) → ℕ
count_held held = count_by is_some held

-- a hart's reservation
abbrev pub held_by : List (Option ℕ) → ℕ → Option ℕ
held_by held hart = slice_index_or held hart None

-- a reservation is of this address
abbrev pub is_of : Option ℕ → ℕ → Bool
is_of None a = false
is_of (Some w) a = nat_eq w a

-- the word of an address
abbrev pub word_at : ℕ → ℕ
word_at a = a - a % 4

-- a reservation, if it is not of this word
abbrev pub without : ℕ → Option ℕ → Option ℕ
without word None = None
without word (Some w) = if nat_eq w word then None else Some w

-- the reservations after a hart's write to a word: another hart's of it ends, and its own stays
abbrev pub released : ℕ → ℕ → List (Option ℕ) → List (Option ℕ)
released hart word held = slice_set (map (without word) held) hart (held_by held hart)
