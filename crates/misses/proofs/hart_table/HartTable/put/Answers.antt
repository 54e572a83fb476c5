use Rattle.std.proofs.Common.{◌≡◌, ℕ, sym, subst, List, length, rules, true}
use Rattle.std.specs.Prelude.{nat_eq, slice_set}
use Rattle.indexmap.specs.IndexMap.{insert_entry}
use Rattle.misses.proofs.SeatLaws.{seated_next, seated_put}
use Rattle.misses.specs.Seats.{AreSeated, is_its, place_among}
use Rattle.misses.specs.declared.line_misses.Visits.{Visits}
use Rattle.misses.proofs.hart_table.HartTable.put.Goals as goal

pub invariant_of-self : goal.invariant_of-self
invariant_of-self c =
    let t = c.self.inside in
    let h : ℕ = c.args.hart in
    let came : c.and-came.result.items ≡ insert_entry nat_eq t.came.items h c.args.visits =
    search rules in
    let its : is_its t.seats.items h ≡ true = search rules in
    let is : c.put_at.new.seats.items
    ≡ slice_set t.seats.items (place_among (length t.seats.items) h) (h, c.args.visits) =
    search rules in
    subst (AreSeated c.put_at.new.seats.items) (sym came)
    (seated_put t.seats.items c.put_at.new.seats.items t.came.items h c.args.visits
    c.self.invariant c.requires.few its is)

pub invariant_of-self-in-Ok : goal.invariant_of-self-in-Ok
invariant_of-self-in-Ok c =
    let t = c.self.inside in
    let h : ℕ = c.args.hart in
    let came : c.and-came.result.items ≡ insert_entry nat_eq t.came.items h c.args.visits =
    search rules in
    let same : c.put_at.new.seats.items ≡ t.seats.items = search rules in
    let seated : AreSeated c.put_at.new.seats.items t.came.items =
    subst (λ (s : List (ℕ × Visits)). AreSeated s t.came.items) (sym same) c.self.invariant in
    subst (AreSeated c.add.new.seats.items) (sym came)
    (seated_next c.put_at.new.seats.items c.add.new.seats.items t.came.items h c.args.visits seated
    c.in-Ok.ensures.round c.in-Ok.ensures.added)
