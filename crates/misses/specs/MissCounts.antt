-- What is kept of each line, and what one access makes of it.
use Rattle.std.specs.Prelude.{◌≡◌, ℕ, ◌+◌, ◌/◌, Bool, not, ◌&&◌, ◌||◌, ◌==◌, eqb, nat_lt, nat_eq}
use Rattle.std.specs.Prelude.{false, is_some, List, []}
use Rattle.std.specs.Prelude.{if◌then◌else◌, filter, length, map, slice_index_or}
use Rattle.std.specs.Prelude.{slice_set}
use Rattle.std.specs.Option.{option_map_or}
use Rattle.std.specs.Map.{lookup}
use Rattle.indexmap.specs.IndexMap.{insert_entry}
use Rattle.base.specs.Lines.{Grid, line_number}
use Rattle.base.specs.Touch.{Touch, is_write}
use Rattle.sharing_rules.specs.AccessLists.{AccessList}
use Rattle.sharing_rules.specs.Arrivals.{each_once}
use Rattle.sharing_rules.specs.Lines.{Line, grid_line, is_inside, line_at, word_place}
use Rattle.sharing_rules.specs.Places.{below, count_places}
use Rattle.misses.specs.declared.line_misses.Cost.{Cost}
use Rattle.misses.specs.declared.line_misses.Counts.{Counts}
use Rattle.misses.specs.declared.line_misses.LastWrite.{LastWrite}
use Rattle.misses.specs.declared.line_misses.Visits.{Visits}
use Rattle.misses.specs.Entries.{behind, last_hart, right_after, writes_in}
use Rattle.misses.specs.Misses.{copies, is_by_in, is_cold, is_in, is_miss, is_needed}

-- Of a line the position right after its latest write, of each of its words the same with that
-- write's hart, of each hart that came, in the order in which they came, its visits, and the
-- counts.
pub record LineEntry : Type 0 where
  pub written : ℕ
  pub words : List LastWrite
  pub harts : List (ℕ × Visits)
  pub counts : Counts

abbrev pub unwritten : LastWrite
unwritten = record { behind = 0; hart = 0 }

abbrev pub no_visits : Visits
no_visits = record { accessed = 0; loaded = 0 }

abbrev pub none_counted : Counts
none_counted = record { cold = 0; misses = 0; needed = 0 }

-- words of which none was written
abbrev pub blank_words : ℕ → List LastWrite
blank_words n = map (λ i. unwritten) (below n)

-- a line of n words with no access
abbrev pub blank_line : ℕ → LineEntry
blank_line n =
    record { written = 0; words = blank_words n; harts = []; counts = none_counted }

-- the visits of a hart
abbrev pub visits_of : List (ℕ × Visits) → ℕ → Visits
visits_of es h = option_map_or (λ v. v) (lookup (eqb h) es) no_visits

-- whether a hart came to a line, and to the line of a number: only an access by one that didn't may
-- want memory
abbrev pub has_come : LineEntry → ℕ → Bool
has_come l h = is_some (lookup (eqb h) l.harts)

abbrev pub has_come_to : List (ℕ × LineEntry) → ℕ → ℕ → Bool
has_come_to lines r h = option_map_or (λ l. has_come l h) (lookup (eqb r) lines) false

-- with no visit an access is cold; it misses where another hart wrote since, and needs a load where
-- there was none, or where another hart was the last to write the word since
abbrev pub misses_now : Visits → ℕ → Bool
misses_now v written = (v.accessed == 0) || nat_lt v.accessed written

abbrev pub needs_now : Visits → ℕ → LastWrite → Bool
needs_now v h w = (v.loaded == 0) || (nat_lt v.loaded w.behind && not (h == w.hart))

abbrev pub visits_after : Visits → Bool → ℕ → Visits
visits_after v needed position =
    record { accessed = position + 1; loaded = if needed then position + 1 else v.loaded }

abbrev pub counts_after : Counts → Cost → Counts
counts_after c cost = record {
  cold = if cost.cold then c.cold + 1 else c.cold;
  misses = if cost.missed then c.misses + 1 else c.misses;
  needed = if cost.needed then c.needed + 1 else c.needed;
}

-- what an access by hart h of the word at a place costs
abbrev pub cost_of : LineEntry → ℕ → ℕ → Cost
cost_of l place h =
    let v = visits_of l.harts h in record {
      cold = v.accessed == 0;
      missed = misses_now v l.written;
      needed = needs_now v h (slice_index_or l.words place unwritten);
    }

-- one access more at a position, of the word at a place of the line
abbrev pub note_line : LineEntry → ℕ → ℕ → Touch → LineEntry
note_line l position place a =
    let cost = cost_of l place a.hart in record {
      written = if is_write a.kind then position + 1 else l.written;
      words = if is_write a.kind then slice_set l.words place
          (record { behind = position + 1; hart = a.hart }) else l.words;
      harts = insert_entry nat_eq l.harts a.hart
          (visits_after (visits_of l.harts a.hart) cost.needed position);
      counts = counts_after l.counts cost;
    }

-- a write of the word at place i of line r
abbrev pub writes_place : Grid → ℕ → ℕ → Touch → Bool
writes_place g r i a = is_write a.kind && is_inside (grid_line g r) a.addr
    && (word_place (grid_line g r) a.addr == i)

-- the lines of a layout, by address
abbrev pub lines_of : Grid → ℕ → ℕ
lines_of g = line_number g.size g.offset

abbrev pub last_write_of : Grid → ℕ → AccessList → ℕ → LastWrite
last_write_of g r t i =
    record { behind = behind (writes_place g r i) t; hart = last_hart (writes_place g r i) t }

abbrev pub visits_in : Grid → ℕ → AccessList → ℕ → Visits
visits_in g r t h = record {
  accessed = behind (is_by_in (lines_of g) h r) t;
  loaded = right_after (copies (lines_of g) t h r);
}

abbrev pub counted : Grid → ℕ → AccessList → Counts
counted g r t = record {
  cold = count_places (is_cold (lines_of g) r) t;
  misses = count_places (is_miss (lines_of g) r) t;
  needed = count_places (is_needed (lines_of g) r) t;
}

-- what a list makes of line r
abbrev pub kept_line : Grid → AccessList → ℕ → LineEntry
kept_line g t r = record {
  written = behind (writes_in (lines_of g) r) t;
  words = map (last_write_of g r t) (below (g.size / 4));
  harts = map (λ h. (h, visits_in g r t h))
      (each_once (map (λ a. a.hart) (filter (is_in (lines_of g) r) t)));
  counts = counted g r t;
}

-- of all accesses so far: their number, the counts over all lines, and the lines that were
-- accessed, in the order of their first accesses
pub record MissCounts : Type 0 where
  pub grid : Grid
  pub position : ℕ
  pub totals : Counts
  pub lines : List (ℕ × LineEntry)

abbrev pub accessed_lines : Grid → AccessList → List ℕ
accessed_lines g t = each_once (map (λ a. lines_of g a.addr) t)

-- over all lines
abbrev pub all_counted : Grid → AccessList → Counts
all_counted g t = record {
  cold = count_places (λ before a. is_cold (lines_of g) (lines_of g a.addr) before a) t;
  misses = count_places (λ before a. is_miss (lines_of g) (lines_of g a.addr) before a) t;
  needed = count_places (λ before a. is_needed (lines_of g) (lines_of g a.addr) before a) t;
}

-- what a list makes of the whole
abbrev pub kept_of : Grid → AccessList → MissCounts
kept_of g t = record {
  grid = g;
  position = length t;
  totals = all_counted g t;
  lines = map (λ r. (r, kept_line g t r)) (accessed_lines g t);
}

-- the entry of line r, that of a blank line of n words where it was not accessed
abbrev pub entry_of : List (ℕ × LineEntry) → ℕ → ℕ → LineEntry
entry_of es r n = option_map_or (λ l. l) (lookup (eqb r) es) (blank_line n)

-- one access more of a line at a position
abbrev pub note_in : List (ℕ × LineEntry) → Line → ℕ → Touch → List (ℕ × LineEntry)
note_in es l position a = insert_entry nat_eq es l.number
    (note_line (entry_of es l.number (l.size / 4)) position (word_place l a.addr) a)

-- and its cost
abbrev pub cost_in : List (ℕ × LineEntry) → Line → Touch → Cost
cost_in es l a = cost_of (entry_of es l.number (l.size / 4)) (word_place l a.addr) a.hart

-- one access more
abbrev pub note_access : MissCounts → Touch → MissCounts
note_access k a = record {
  grid = k.grid;
  position = k.position + 1;
  totals = counts_after k.totals (cost_in k.lines (line_at k.grid a.addr) a);
  lines = note_in k.lines (line_at k.grid a.addr) k.position a;
}

-- the accesses so far are those of a list
abbrev pub StandsFor : AccessList → MissCounts → Type 0
StandsFor t k = k ≡ kept_of k.grid t
