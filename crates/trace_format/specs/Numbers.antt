-- How versions 2 to 4 spell an address, and versions 3 and 4 a pc: by how far it is from the one before,
-- in groups of seven bits.
use Rattle.std.specs.Prelude.{ℕ, zero, suc, ◌+◌, ◌-◌, ◌*◌, ◌/◌, ◌%◌, ◌^◌, ◌==◌, ◌||◌, ◌&&◌, Bool}
use Rattle.std.specs.Prelude.{nat_lt, nat_le, List, [], ◌∷◌, length, slice_index, if◌then◌else◌}

-- Let D be the address minus the one before, modulo 2^32 into -2^31 to 2^31 - 1. It is recorded as
-- 2D where it is not negative, and as -2D - 1 where it is.
abbrev pub distance : ℕ → ℕ → ℕ
distance last addr =
    let up = (addr + 2 ^ 32 - last) % 2 ^ 32 in
    if nat_lt up (2 ^ 31) then 2 * up else 2 * (2 ^ 32 - up) - 1

-- the address at such a distance from the one before
abbrev pub address_at : ℕ → ℕ → ℕ
address_at last z =
    if z % 2 == 0 then (last + z / 2) % 2 ^ 32 else (last + 2 ^ 32 - (z + 1) / 2) % 2 ^ 32

-- a number in at most so many groups more than one
abbrev pub groups_in : ℕ → ℕ → List ℕ
groups_in zero z = z ∷ []
groups_in (suc more) z = if nat_lt z 128 then z ∷ [] else (z % 128 + 128) ∷ groups_in more
    (z / 128)

-- The groups of seven bits of a number below 2^35, the lowest first. Each byte but the last has
-- its top bit set.
abbrev pub groups : ℕ → List ℕ
groups z = groups_in 4 z

-- the number that groups state, whose top bits don't count
abbrev pub number_in : List ℕ → ℕ
number_in [] = 0
number_in (b ∷ bs) = b % 128 + 128 * number_in bs

-- how many bytes the groups that begin here have, at most five: up to the first with its top bit
-- clear
abbrev pub group_count : List ℕ → ℕ
group_count bytes =
    if nat_lt (slice_index bytes 0) 128 then 1
    else (if nat_lt (slice_index bytes 1) 128 then 2
    else (if nat_lt (slice_index bytes 2) 128 then 3
    else (if nat_lt (slice_index bytes 3) 128 then 4
    else 5)))

-- The last byte is 0 only where it is the only one, and a fifth is at most 15.
abbrev pub are_groups : List ℕ → Bool
are_groups bytes =
    let last = slice_index bytes (length bytes - 1) in
    ((length bytes == 1) || nat_lt 0 last) && (nat_lt (length bytes) 5 || nat_le last 15)
