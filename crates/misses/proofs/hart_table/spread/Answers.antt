use Rattle.std.proofs.Common.{◌≡◌, ℕ, ◌<◌, List, ◌++◌, ◌∙◌, length, arith, rules}
use Rattle.misses.proofs.SeatLaws.{all_twice, begun_round, doubled_round, doubled_seen}
use Rattle.misses.specs.declared.line_misses.Visits.{Visits}
use Rattle.misses.proofs.hart_table.spread.Goals as goal

pub returns-in-Ok-clause-round : goal.returns-in-Ok-clause-round
returns-in-Ok-clause-round c = begun_round c.resize.new.self.items (search rules)

pub returns-in-Ok-extend_from_within-clause-round : goal.returns-in-Ok-extend_from_within-clause-round
returns-in-Ok-extend_from_within-clause-round c =
    let s : List (ℕ × Visits) = c.args.seats.now.items in
    let some : 0 < length s = omega arith in
    let is : c.extend_from_within.new.self.items ≡ s ++ s =
    c.in-Ok-extend_from_within.ensures.items ∙ all_twice s c.len-count.result (omega arith) in
    doubled_round s c.extend_from_within.new.self.items c.requires.round some is

pub returns-in-Ok-extend_from_within-clause-same : goal.returns-in-Ok-extend_from_within-clause-same
returns-in-Ok-extend_from_within-clause-same c =
    let s : List (ℕ × Visits) = c.args.seats.now.items in
    let some : 0 < length s = omega arith in
    let is : c.extend_from_within.new.self.items ≡ s ++ s =
    c.in-Ok-extend_from_within.ensures.items ∙ all_twice s c.len-count.result (omega arith) in
    doubled_seen s c.extend_from_within.new.self.items c.requires.round some is
