-- A finite map from line numbers to entries.
use Rattle.std.specs.Prelude.{◌≢◌, ℕ, zero, suc, ◌+◌, ◌≤◌, ◌^◌, ◌==◌, ◌&&◌, Bool, if◌then◌else◌}
use Rattle.std.specs.Prelude.{Option, None, is_none, unwrap_or}
use Rattle.std.specs.Ordering.{nat_cmp}
use Rattle.std.specs.FinMap as map
use Rattle.detector.specs.declared.line_entry.LineEntry.{LineEntry}

-- entries by line, for the lines that have one
abbrev pub Entries : Type 0
Entries = map.FinMap nat_cmp LineEntry

abbrev pub no_entries : Entries
no_entries = map.empty

abbrev pub get : Entries → ℕ → Option LineEntry
get m line = map.get m line

-- no write and no track
abbrev pub blank_entry : LineEntry
blank_entry = record { writes = 0; track = None; shifted = None; doubled = None }

abbrev pub is_blank : LineEntry → Bool
is_blank e = (e.writes == 0) && is_none e.track && is_none e.shifted && is_none e.doubled

-- the entry of a line, blank where the map has none
abbrev pub entry_at : Entries → ℕ → LineEntry
entry_at m line = unwrap_or (map.get m line) blank_entry

-- the map with this entry at a line: a blank one is left out
abbrev pub with_entry : Entries → ℕ → LineEntry → Entries
with_entry m line e = if is_blank e then map.remove m line else map.insert m line e

-- what may stand in the map at a line
pub record IsEntry (line : ℕ) (e : LineEntry) : Type 0 where
  pub in_range : line ≤ 2 ^ 30
  pub not_blank : e ≢ blank_entry

-- the map of the entries of the lines below n
unfoldable pub entries_below : ℕ → (ℕ → LineEntry) → Entries
entries_below zero f = no_entries
entries_below (suc n) f = with_entry (entries_below n f) n (f n)

-- the map of the entries of all lines up to 2^30
abbrev pub entries_of : (ℕ → LineEntry) → Entries
entries_of f = entries_below (2 ^ 30 + 1) f
