-- The entries of a `MapIndex`.
use Rattle.std.specs.Prelude.{ℕ, Bool, is_some, unwrap_or}
use Rattle.std.specs.Ordering.{nat_cmp}
use Rattle.std.specs.BTreeMap.{get}
use Rattle.detector.specs.declared.line_entry.LineEntry.{LineEntry}
use Rattle.detector_tests.specs.declared.map_index.MapIndex.{MapIndex}
use Rattle.detector.specs.Entries.{Entries, blank_entry, entries_of}

-- the entry of a line in the ordered map, blank where there is none
abbrev pub map_entry : MapIndex → ℕ → LineEntry
map_entry s line = unwrap_or (get nat_cmp s.lines line) blank_entry

-- whether a line stands in the ordered map
abbrev pub map_place : MapIndex → ℕ → Bool
map_place s line = is_some (get nat_cmp s.lines line)

abbrev pub map_entries : MapIndex → Entries
map_entries s = entries_of (map_entry s)
