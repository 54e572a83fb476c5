-- What is counted at each shift.
use Rattle.std.specs.Prelude.{ℕ, ◌+◌, ◌*◌, ◌/◌, ◌%◌, ◌<◌, ◌≡◌, ◌==◌, ◌&&◌, nat_le, nat_lt}
use Rattle.std.specs.Prelude.{if◌then◌else◌, List, Option, None}
use Rattle.std.specs.Prelude.{Some, map, slice_get}
use Rattle.std.specs.List.{find, list_all}
use Rattle.base.specs.Touch.{Touch}
use Rattle.sharing_rules.specs.AccessLists.{AccessList}
use Rattle.sharing_rules.specs.Places.{below}
use Rattle.layout_sweep.specs.Totals.{counted_lines, total_of}
use Rattle.layout_sweep.specs.Windows.{shifted_grid, takes}
use Rattle.layout_sweep.specs.declared.counts.Swept.{Swept}
use Rattle.layout_sweep.specs.declared.window.Window.{Window}

-- of shift 4 * i of a list
abbrev pub swept_of : ℕ → AccessList → ℕ → Swept
swept_of n t i = record {
  shift = 4 * i;
  total = total_of (shifted_grid n i) t;
  lines = counted_lines (shifted_grid n i) t;
}

-- of every shift, rising
abbrev pub sweep_of : ℕ → AccessList → List Swept
sweep_of n t = map (swept_of n t) (below (n / 4))

-- the first whose total is at most every other's
abbrev pub least_of : List Swept → Option Swept
least_of all = find (λ x. list_all (λ y. nat_le x.total y.total) all) all

-- after an access in one of its windows
abbrev pub swept_after : Swept → Window → Touch → Swept
swept_after x w a =
    if takes w a then record {
      shift = x.shift;
      total = x.total + 1;
      lines = if w.taken then x.lines else x.lines + 1;
    }
    else x

-- every number is below a bound
abbrev pub AreBelow : ℕ → List Swept → Type 0
AreBelow bound all =
    (i : ℕ) (x : Swept) → slice_get all i ≡ Some x → (x.total < bound) × (x.lines < bound)

-- what a shift counts: none where it is no multiple of 4 below the size
abbrev pub at_shift : ℕ → AccessList → ℕ → Option Swept
at_shift n t shift = if nat_lt shift n && (shift % 4 == 0) then Some (swept_of n t (shift / 4))
    else None
