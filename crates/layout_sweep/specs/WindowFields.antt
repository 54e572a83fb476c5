-- How the fields of a window stand for what is kept of it.
use Rattle.std.specs.Prelude.{◌≡◌, ◌≢◌, ℕ, ◌+◌, ◌*◌, ◌/◌, ◌%◌, ◌<◌, ◌==◌, ◌&&◌, not, if◌then◌else◌}
use Rattle.std.specs.Prelude.{List, Option, None, Some, IsTrue, ◌⊎◌}
use Rattle.line_tracks.specs.HistoryFields.{entries_of, fields_of as entry_fields}
use Rattle.layout_sweep.specs.WindowHistory.{WindowHistory}
use Rattle.layout_sweep.specs.declared.window.Window.TheInside.{Inside}

-- before the first write
abbrev pub unwritten : ℕ
unwritten = 1048576

abbrev pub history_of : ℕ → Option (List ℕ)
history_of n = if n == 1048576 then None else Some (entries_of n)

abbrev pub kept : Inside → WindowHistory
kept w = record { history = history_of w.harts; taken = w.taken }

-- two harts that differ, or one
pub record AreHarts (n : ℕ) : Type 0 where
  pub low : n / 256 < 257
  pub distinct : n / 256 ≢ n % 256 + 1

-- There are harts where it was written, and it was written where it was taken.
pub record AreFit (w : Inside) : Type 0 where
  pub harts : (w.harts ≡ 1048576) ⊎ AreHarts w.harts
  pub written : IsTrue w.taken → w.harts ≢ 1048576

abbrev pub harts_of : Option (List ℕ) → ℕ
harts_of None = 1048576
harts_of (Some hs) = (entry_fields hs).both

abbrev pub fields_of : WindowHistory → Inside
fields_of k = record { harts = harts_of k.history; taken = k.taken }

-- after a read
abbrev pub harts_after : ℕ → ℕ → ℕ
harts_after n h = if (n / 256 == 0) && not (n == h) then n + 256 * (h + 1) else n
