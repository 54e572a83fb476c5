-- The hot pairs of two neighbouring ranges, by the addresses of their words.
use Rattle.std.specs.Prelude.{◌≡◌, ◌<◌, ℕ, ◌+◌, ◌*◌, ◌^◌, pos, nat_abs, ◌+ℤ◌, ◌≤ℤ◌, IsTrue, Option}
use Rattle.std.specs.Prelude.{Some, None}
use Rattle.base.specs.declared.layout.Range.{Range}
use Rattle.sharing_rules.specs.AccessLists.{AccessList}
use Rattle.sharing_rules.specs.Lines.{Line, is_inside, native_line, range_of}
use Rattle.sharing_rules.specs.Observed.{observed_start}
use Rattle.sharing_rules.specs.Predicted.{is_native_size, word_address}
use Rattle.sharing_rules.specs.Words.{words_since}
use Rattle.line_tracks.specs.RangeWords.{RangeWords}
use Rattle.line_tracks.specs.declared.pair.Pair.{Pair}

-- two lines of one native size, side by side, which lie from 0 to 2^32
pub record AreNeighbours (lower upper : Range) : Type 0 where
  pub native : IsTrue (is_native_size lower.size)
  pub alike : upper.size ≡ lower.size
  pub joined : upper.base ≡ (lower.base +ℤ pos lower.size)
  pub begins : pos 0 ≤ℤ lower.base
  pub ends : (upper.base +ℤ pos upper.size) ≤ℤ pos (2 ^ 32)

-- How many bytes a pair may take, from the beginning of its lower word to the end of its upper one.
-- Where no number is given, those of both lines of n bytes, in which every pair lies.
abbrev pub reach : ℕ → Option ℕ → ℕ
reach n None = 2 * n
reach n (Some within) = within

-- the address of word i of a range that begins at 0 or above
abbrev pub word_at : Range → ℕ → ℕ
word_at r i = nat_abs r.base + 4 * i

-- the pair of the words at two places
abbrev pub pair_at : Range → Range → ℕ × ℕ → Pair
pair_at lower upper p = record { x = word_at lower p.0; y = word_at upper p.1 }

-- the words of a line since a position
abbrev pub line_words : Line → ℕ → AccessList → RangeWords
line_words l s t = record { range = range_of l; words = words_since l s t }

-- what two lines k and k+1 of n bytes are kept as, where both are observed after t
pub record AreObservedWords (n T k : ℕ) (t : AccessList) (lower upper : RangeWords) : Type 0 where
  pub number : 0 < k
  pub lower_start : ℕ
  pub upper_start : ℕ
  pub lower_observed : observed_start T (is_inside (native_line n k)) t ≡ Some lower_start
  pub upper_observed : observed_start T (is_inside (native_line n (k + 1))) t ≡ Some upper_start
  pub lower_words : lower ≡ line_words (native_line n k) lower_start t
  pub upper_words : upper ≡ line_words (native_line n (k + 1)) upper_start t

-- the pair of lines k and k+1 of n bytes at two places
abbrev pub pair_of : ℕ → ℕ → ℕ × ℕ → Pair
pair_of n k p = record { x = word_address n k p.0; y = word_address n (k + 1) p.1 }
