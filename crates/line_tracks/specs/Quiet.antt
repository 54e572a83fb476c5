-- Lines whose words, each taken for a line of its own, are never taken from another hart.
use Rattle.std.specs.Prelude.{ℕ, IsTrue, IsFalse}
use Rattle.base.specs.Lines.{line_number}
use Rattle.sharing_rules.specs.AccessLists.{AccessList}
use Rattle.sharing_rules.specs.Places.{passes_at}
use Rattle.sharing_rules.specs.Lines.{Line, is_inside}
use Rattle.sharing_rules.specs.Holders.{is_invalidation}

-- the word of an address, as a line of 4 bytes that begin at multiples of 4
abbrev pub word_line : ℕ → ℕ
word_line = line_number 4 0

-- From empty caches under lines of 4 bytes, no position of the list is an invalidation of a word of
-- the line.
abbrev pub HasQuietWords : Line → AccessList → Type 0
HasQuietWords l t =
    (addr : ℕ) → IsTrue (is_inside l addr) → (i : ℕ)
    → IsFalse (passes_at (is_invalidation word_line (word_line addr)) t i)
