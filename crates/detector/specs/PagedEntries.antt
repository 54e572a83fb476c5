-- The entries of a `PagedIndex`.
use Rattle.std.specs.Prelude.{ℕ, ◌/◌, ◌%◌, Bool}
use Rattle.detector.specs.declared.line_entry.LineEntry.{LineEntry}
use Rattle.detector.specs.declared.paged_index.PagedIndex.{PagedIndex}
use Rattle.detector.specs.Entries.{Entries, entries_of}
use Rattle.detector.specs.Pages.{directory_entry, has_line, items_at}

-- the entry of a line, in directories of 4096 pages of 64 lines
abbrev pub paged_entry : PagedIndex → ℕ → LineEntry
paged_entry s line = directory_entry (items_at s.directories.items (line / 262144)) (line % 262144)

-- whether a line's page is there
abbrev pub paged_place : PagedIndex → ℕ → Bool
paged_place s line = has_line (items_at s.directories.items (line / 262144)) (line % 262144)

abbrev pub paged_entries : PagedIndex → Entries
paged_entries s = entries_of (paged_entry s)
