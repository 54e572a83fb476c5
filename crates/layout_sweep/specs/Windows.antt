-- Windows: the lines of one size under all its shifts. n is the size in bytes, and n / 4 the number
-- of shifts, which are the multiples of 4 below n.
use Rattle.std.specs.Prelude.{ℕ, ◌*◌, ◌/◌, ◌%◌, Bool, ◌||◌, eqb, nat_lt, [], ◌∷◌}
use Rattle.std.specs.Prelude.{◌<◌, None, option_map, false, IsFalse, IsTrue}
use Rattle.std.specs.List.{list_any}
use Rattle.base.specs.Lines.{Grid}
use Rattle.base.specs.Touch.{Touch, is_write}
use Rattle.sharing_rules.specs.AccessLists.{AccessList, writes_to}
use Rattle.sharing_rules.specs.Lines.{Line, is_inside, line_at, native_grid}
use Rattle.sharing_rules.specs.Tracks.{Traced, track_of}
use Rattle.layout_sweep.specs.Histories.{finds_another, history_after}
use Rattle.layout_sweep.specs.declared.window.Window.{Window}

-- a size that can be swept: a power of two from 4 to 256
abbrev pub is_swept_size : ℕ → Bool
is_swept_size n = list_any (eqb n) (4 ∷ 8 ∷ 16 ∷ 32 ∷ 64 ∷ 128 ∷ 256 ∷ [])

-- the layout of shift 4 * i
abbrev pub shifted_grid : ℕ → ℕ → Grid
shifted_grid n i = record { size = n; offset = 4 * i }

-- Window q is line q / (n / 4) of shift 4 * (q % (n / 4)). It ends before address 4 * q.
abbrev pub window_line : ℕ → ℕ → Line
window_line n q =
    record { size = n; offset = 4 * (q % (n / 4)); number = q / (n / 4) }

-- What is kept of a line that is tracked from its first write on: its history, and whether it was
-- taken from a hart.
abbrev pub window_from : Traced → Window
window_from x =
    record { history = option_map (λ s. x.entries) x.start; taken = nat_lt 0 x.count }

-- the same of a line for a list
abbrev pub window_of : Line → AccessList → Window
window_of l t = window_from (track_of l 0 t)

-- a window that was never written
abbrev pub blank_window : Window
blank_window = record { history = None; taken = false }

-- whether an access in a window takes it from another hart
abbrev pub takes : Window → Touch → Bool
takes w a = finds_another w.history a

-- a window after an access in it
abbrev pub window_after : Window → Touch → Window
window_after w a =
    record { history = history_after w.history a; taken = takes w a || w.taken }

-- an access that is the first write in the line of some shift
pub record IsFirstWrite (n : ℕ) (t : AccessList) (a : Touch) : Type 0 where
  pub write : IsTrue (is_write a.kind)
  pub shift : ℕ
  pub within : shift < n / 4
  pub first : IsFalse (list_any (writes_to (is_inside (line_at (shifted_grid n shift) a.addr))) t)

-- an access that is the first write of its line, where lines of n bytes begin at their multiples
pub record BeginsLine (n : ℕ) (t : AccessList) (a : Touch) : Type 0 where
  pub write : IsTrue (is_write a.kind)
  pub first : IsFalse (list_any (writes_to (is_inside (line_at (native_grid n) a.addr))) t)
