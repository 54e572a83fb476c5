-- The words of two lines, as the search goes over them.
use Rattle.std.specs.Prelude.{◌≡◌, ℕ, ◌<◌, ◌≤◌, ◌^◌, ◌/◌, List, filter, length, sum_by, Option}
use Rattle.sharing_rules.specs.Pairs.{first_best, score}
use Rattle.sharing_rules.specs.Search.{is_passing}
use Rattle.sharing_rules.specs.Words.{accesses}
use Rattle.sharing_rules.specs.declared.word.Word.{Word}
use Rattle.line_tracks.specs.RangeWords.{RangeWords}

-- `count` words in each, and no more accesses than are counted
pub record AreRows (lower upper : RangeWords) (count within : ℕ) : Type 0 where
  pub lower_words : length lower.words ≡ count
  pub upper_words : length upper.words ≡ count
  pub lower_size : lower.range.size / 4 ≡ count
  pub upper_size : upper.range.size / 4 ≡ count
  pub short : count ≤ 64
  pub lower_few : sum_by accesses lower.words ≤ 2 ^ 40
  pub upper_few : sum_by accesses upper.words ≤ 2 ^ 40
  pub near : within < 2 ^ 32

-- the best of those pairs that are hot and near enough
abbrev pub best_of : List Word → List Word → ℕ → List (ℕ × ℕ) → Option (ℕ × ℕ)
best_of lower upper within ps = first_best (score lower upper)
    (filter (is_passing lower upper within) ps)
