-- The entries of pages and directories, and the first written one.
use Rattle.std.specs.Prelude.{◌≡◌, ℕ, ◌/◌, ◌%◌, ◌<◌, ◌≤◌, Bool, List, [], length, nat_lt, Option}
use Rattle.std.specs.Prelude.{slice_get, unwrap_or, MatchOption}
use Rattle.std.specs.Option.{option_map_or}
use Rattle.std.specs.declared.vec.Vec.{Vec}
use Rattle.std.specs.declared.alloc.Global.{Global}
use Rattle.detector.specs.declared.line_entry.LineEntry.{LineEntry}
use Rattle.detector.specs.Entries.{blank_entry}

-- the elements of the vector at a place, and none where there is no vector
abbrev pub items_at : {X Z : Type 0} → List (Vec X Z) → ℕ → List X
items_at all k = option_map_or (λ v. v.items) (slice_get all k) []

-- the entry at a place of a page, blank past its end
abbrev pub page_entry : List LineEntry → ℕ → LineEntry
page_entry page k = unwrap_or (slice_get page k) blank_entry

-- the entry of a line of a directory, whose pages have 64 lines each
abbrev pub directory_entry : List (Vec LineEntry Global) → ℕ → LineEntry
directory_entry pages k = page_entry (items_at pages (k / 64)) (k % 64)

-- whether the page of a line of a directory is there
abbrev pub has_line : List (Vec LineEntry Global) → ℕ → Bool
has_line pages k = nat_lt (k % 64) (length (items_at pages (k / 64)))

-- no line from `from` on and below `to` was written
abbrev pub NoneWritten : (ℕ → LineEntry) → ℕ → ℕ → Type 0
NoneWritten entry_of from to = (q : ℕ) → from ≤ q → q < to → (entry_of q).writes ≡ 0

-- n is the first line from `from` on and below `end` that was written
pub record IsNextAt (entry_of : ℕ → LineEntry) (from end n : ℕ) : Type 0 where
  pub at_or_above : from ≤ n
  pub in_range : n < end
  pub written : 0 < (entry_of n).writes
  pub least : NoneWritten entry_of from n

-- the first line from `from` on and below `end` that was written, None exactly where there is none
abbrev pub IsNext : (ℕ → LineEntry) → ℕ → ℕ → Option ℕ → Type 0
IsNext entry_of from end r = MatchOption r (NoneWritten entry_of from end)
    (IsNextAt entry_of from end)
