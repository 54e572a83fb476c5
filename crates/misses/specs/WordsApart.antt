-- What a line for each of its words would cost.
use Rattle.std.specs.Prelude.{ℕ, ◌-◌, ◌*◌, not, ◌&&◌, ◌==◌, List, filter, sum_by}
use Rattle.base.specs.Lines.{Grid}
use Rattle.sharing_rules.specs.AccessLists.{AccessList}
use Rattle.sharing_rules.specs.Places.{Question, count_places}
use Rattle.misses.specs.MissCounts.{accessed_lines, lines_of}
use Rattle.misses.specs.Misses.{is_in, is_miss, is_needed}

-- the layout of lines of one word; its line k begins at address 4 (k - 1)
abbrev pub word_grid : Grid
word_grid = record { size = 4; offset = 0 }

abbrev pub own_line : ℕ → ℕ
own_line = lines_of word_grid

-- the words of line r that a list accesses, each by the number of its own line
abbrev pub words_in : (ℕ → ℕ) → ℕ → AccessList → List ℕ
words_in line_of r t = filter (λ k. line_of (4 * (k - 1)) == r) (accessed_lines word_grid t)

-- the needed loads, and the misses, of the own lines of a line's words, all together
abbrev pub needed_apart : (ℕ → ℕ) → ℕ → AccessList → ℕ
needed_apart line_of r t =
    sum_by (λ k. count_places (is_needed own_line k) t) (words_in line_of r t)

abbrev pub misses_apart : (ℕ → ℕ) → ℕ → AccessList → ℕ
misses_apart line_of r t =
    sum_by (λ k. count_places (is_miss own_line k) t) (words_in line_of r t)

-- a word that came along: its own line would have to be loaded, and the copy of line r has the word
-- already, since it was loaded for another one
abbrev pub comes_along : (ℕ → ℕ) → ℕ → Question
comes_along line_of r before a = is_in line_of r a && (not (is_needed line_of r before a)
    && is_needed own_line (own_line a.addr) before a)

abbrev pub came_along : (ℕ → ℕ) → ℕ → AccessList → ℕ
came_along line_of r t = count_places (comes_along line_of r) t
