-- The entries of a history: the first two harts that came to a line since its last write, as a
-- list of one or two.
use Rattle.std.specs.Prelude.{◌≢◌, ℕ, ◌<◌, ◌≤◌, Bool, not, ◌==◌, List, length, take, slice_get}
use Rattle.std.specs.List.{list_any}
use Rattle.sharing_rules.specs.Arrivals.{note_arrival}

-- one entry, or two that differ
pub record AreEntries (hs : List ℕ) : Type 0 where
  pub some : 0 < length hs
  pub few : length hs ≤ 2
  pub distinct : slice_get hs 0 ≢ slice_get hs 1

-- the entries after a read by hart h
abbrev pub entries_after_read : List ℕ → ℕ → List ℕ
entries_after_read hs h = take 2 (note_arrival hs h)

-- whether a hart other than h is among them
abbrev pub has_another : List ℕ → ℕ → Bool
has_another hs h = list_any (λ g. not (g == h)) hs
