-- Which lists a sweep stands for, and the counts of one layout.
use Rattle.std.specs.Prelude.{◌≡◌, ℕ, IsTrue, length}
use Rattle.base.specs.Lines.{line_number}
use Rattle.base.specs.Touch.{Touch, is_write}
use Rattle.sharing_rules.specs.AccessLists.{AccessList}
use Rattle.sharing_rules.specs.Lines.{native_grid, native_line}
use Rattle.layout_sweep.specs.Counts.{sweep_of}
use Rattle.layout_sweep.specs.Pages.{has_window, window_at}
use Rattle.layout_sweep.specs.Totals.{total_of}
use Rattle.layout_sweep.specs.Windows.{window_line, window_of}
use Rattle.layout_sweep.specs.declared.line_counts.LineCounts.{LineCounts}
use Rattle.layout_sweep.specs.declared.sweep.Sweep.{Sweep}

-- It has counted the list's accesses, each of its windows is what the list makes of it, and so is
-- what is counted at each shift.
pub record StandsFor (t : AccessList) (s : Sweep) : Type 0 where
  pub position : s.position ≡ length t
  pub windows : (q : ℕ) → window_at s.pages.items q ≡ window_of (window_line s.size q) t
  pub counts : s.counts.items ≡ sweep_of s.size t

-- Each line's window is what the list makes of it, and so is the total.
pub record HasCounted (t : AccessList) (c : LineCounts) : Type 0 where
  pub windows : (k : ℕ) → window_at c.pages.items k ≡ window_of (native_line c.size k) t
  pub total : c.total ≡ total_of (native_grid c.size) t

-- the line of a write has its window
abbrev pub CanNote : LineCounts → Touch → Type 0
CanNote c a =
    IsTrue (is_write a.kind) → IsTrue (has_window c.pages.items (line_number c.size 0 a.addr))
