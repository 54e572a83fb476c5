-- The order of the printed rows.
use Rattle.std.specs.Prelude.{ℕ, Bool, ◌&&◌, ◌||◌, ◌==◌, nat_lt}
use Rattle.sharing_rules.specs.declared.word.Word.{Word}
use Rattle.invalidations.specs.declared.sited.Sides.{Sides}
use Rattle.invalidations.specs.declared.tables.Taken.{Taken}

-- sites by pc rising
abbrev pub is_site_row_before : ℕ × Word → ℕ × Word → Bool
is_site_row_before x y = nat_lt x.0 y.0

-- by the victim's number rising, then by the taker's
abbrev pub is_sides_before : Sides → Sides → Bool
is_sides_before x y =
    nat_lt x.victim y.victim || ((x.victim == y.victim) && nat_lt x.taker y.taker)

-- pairs of harts so
abbrev pub is_hart_row_before : Sides × Taken → Sides × Taken → Bool
is_hart_row_before x y = is_sides_before x.0 y.0

-- pairs of instructions by invalidations falling, then so
abbrev pub is_pair_row_before : Sides × Taken → Sides × Taken → Bool
is_pair_row_before x y =
    nat_lt y.1.taken x.1.taken || ((x.1.taken == y.1.taken) && is_sides_before x.0 y.0)
