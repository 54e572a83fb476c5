-- Windows in pages of 4096. A page that isn't there yet is an empty vector.
use Rattle.std.specs.Prelude.{◌≡◌, ℕ, ◌+◌, ◌/◌, ◌%◌, ◌<◌, ◌≤◌, ◌⊎◌, Bool, nat_lt, List, []}
use Rattle.std.specs.Prelude.{length, slice_get, unwrap_or}
use Rattle.std.specs.Option.{option_map_or}
use Rattle.std.specs.declared.vec.Vec.{Vec}
use Rattle.std.specs.declared.alloc.Global.{Global}
use Rattle.layout_sweep.specs.Windows.{blank_window}
use Rattle.layout_sweep.specs.declared.window.Window.{Window}

-- the windows of the page at a place
abbrev pub page_at : List (Vec Window Global) → ℕ → List Window
page_at pages k = option_map_or (λ v. v.items) (slice_get pages k) []

-- the window at a place of a page, blank past its end
abbrev pub window_in : List Window → ℕ → Window
window_in page k = unwrap_or (slice_get page k) blank_window

abbrev pub window_at : List (Vec Window Global) → ℕ → Window
window_at pages q = window_in (page_at pages (q / 4096)) (q % 4096)

-- whether the page of a window is there
abbrev pub has_window : List (Vec Window Global) → ℕ → Bool
has_window pages q = nat_lt (q % 4096) (length (page_at pages (q / 4096)))

-- one of the windows that hold word w, of m words each, was never written
pub record HasBlank (windows : ℕ → Window) (w m : ℕ) : Type 0 where
  pub number : ℕ
  pub above : w < number
  pub within : number ≤ w + m
  pub blank : windows number ≡ blank_window

-- so many windows from one on are all there, in one page
pub record HasRow (pages : List (Vec Window Global)) (first count : ℕ) : Type 0 where
  pub near : first % 4096 + count ≤ 4096
  pub page : first / 4096 < length pages
  pub there : first % 4096 + count ≤ length (page_at pages (first / 4096))

-- of m shifts, j is the one i behind another, where the first comes behind the last
pub record IsTurned (m first i j : ℕ) : Type 0 where
  pub low : j < m
  pub behind : (j ≡ first + i) ⊎ (j + m ≡ first + i)
