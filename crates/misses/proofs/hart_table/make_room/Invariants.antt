use Rattle.std.proofs.Common.{◌≡◌, ℕ, ◌-◌, ◌<◌, length}
use Rattle.misses.specs.Seats.{IsRound, seen}
use Rattle.misses.proofs.hart_table.make_room.Given as goal

abbrev pub invariant-loop-seats : goal.invariant-loop-seats
invariant-loop-seats l = IsRound (length l.seats.items)
    × ((h : ℕ) → h < 256 → seen l.seats.items h ≡ seen l.fn.seats.items h)

abbrev pub decreases-loop-seats : goal.decreases-loop-seats
decreases-loop-seats l = 256 - length l.seats.items
