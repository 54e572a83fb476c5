-- Where the visits of each hart of a line are: in the seat at the place that the lowest bits of its
-- number say. There are as many seats as distinguish the harts that came.
use Rattle.std.specs.Prelude.{◌≡◌, ◌⊎◌, ℕ, ◌-◌, ◌<◌, ◌^◌, Bool, not, ◌&&◌, ◌||◌, eqb, nat_lt}
use Rattle.std.specs.Prelude.{List, length, Option, Some, None, if◌then◌else◌, slice_index_or}
use Rattle.std.specs.Prelude.{bit_and}
use Rattle.std.specs.Map.{lookup}
use Rattle.misses.specs.MissCounts.{no_visits}
use Rattle.misses.specs.declared.line_misses.Visits.{Visits}

-- the seat where nobody sits: 256 is no hart's number
abbrev pub free_seat : ℕ × Visits
free_seat = (256, no_visits)

-- the place of hart h among n seats, a power of two, or none where no hart came
abbrev pub place_among : ℕ → ℕ → ℕ
place_among n h = bit_and h (n - 1)

abbrev pub seat_of : List (ℕ × Visits) → ℕ → ℕ × Visits
seat_of seats h = slice_index_or seats (place_among (length seats) h) free_seat

-- whether that seat is hart h's
abbrev pub is_its : List (ℕ × Visits) → ℕ → Bool
is_its seats h = eqb h (seat_of seats h).0

-- the visits of hart h, as that seat says
abbrev pub seen : List (ℕ × Visits) → ℕ → Option Visits
seen seats h = if is_its seats h then Some (seat_of seats h).1 else None

-- whether hart h may take that seat: it is free, or its hart has another place now
abbrev pub is_open : List (ℕ × Visits) → ℕ → Bool
is_open seats h =
    let n = length seats in
    let there = (seat_of seats h).0 in
    nat_lt 0 n
    && (not (nat_lt there 256) || not (eqb (place_among n there) (place_among n h)))

-- how many seats there may be
abbrev pub IsRound : ℕ → Type 0
IsRound n = (n ≡ 0) ⊎ ((k : ℕ) × (n ≡ 2 ^ k))

-- seats that say of each hart what the entries say
pub record AreSeated (seats entries : List (ℕ × Visits)) : Type 0 where
  pub round : IsRound (length seats)
  pub found : (h : ℕ) → h < 256 → seen seats h ≡ lookup (eqb h) entries
