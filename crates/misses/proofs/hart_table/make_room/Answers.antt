use Rattle.std.proofs.Common.{◌≡◌, ℕ, ◌<◌, ◌∙◌, List, length, arith, rules, false, None}
use Rattle.misses.proofs.SeatLaws.{crowded}
use Rattle.misses.specs.Seats.{is_open, seen}
use Rattle.misses.specs.declared.line_misses.Visits.{Visits}
use Rattle.misses.proofs.hart_table.make_room.Goals as goal

pub loop-seats-smaller : goal.loop-seats-smaller
loop-seats-smaller c =
    let s : List (ℕ × Visits) = c.loop-seats.seats.items in
    let absent : seen s c.args.hart ≡ None =
    c.loop-seats.invariant.1 c.args.hart c.requires.few ∙ c.requires.absent in
    let closed : is_open s c.args.hart ≡ false = search rules in
    let few : length s < 256 =
    crowded s c.args.hart c.loop-seats.invariant.0 c.requires.few absent closed in
    let more : length s < length c.spread.new.seats.items = c.in-Ok.ensures.more in
    omega (arith, few, more)
