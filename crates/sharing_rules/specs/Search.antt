-- The search for the best pair, pair by pair.
use Rattle.std.specs.Prelude.{ℕ, ◌<◌, ◌≤◌, ◌^◌, Bool, ◌&&◌, nat_lt, if◌then◌else◌, List, map}
use Rattle.std.specs.Prelude.{length, Option, Some, None}
use Rattle.std.specs.List.{All}
use Rattle.sharing_rules.specs.declared.word.Word.{Word}
use Rattle.sharing_rules.specs.Places.{below}
use Rattle.sharing_rules.specs.Words.{accesses}
use Rattle.sharing_rules.specs.Pairs.{is_hot_at, is_near}

-- the better of the best so far and a later pair
abbrev pub keep : (ℕ × ℕ → ℕ) → Option (ℕ × ℕ) → ℕ × ℕ → Option (ℕ × ℕ)
keep f None p = Some p
keep f (Some q) p = if nat_lt (f q) (f p) then Some p else Some q

-- hot and near enough
abbrev pub is_passing : List Word → List Word → ℕ → ℕ × ℕ → Bool
is_passing lower upper within p = is_hot_at lower upper p && is_near (length lower) within p

-- a pair of places of the two lines, if there is one
abbrev pub is_in : List Word → List Word → Option (ℕ × ℕ) → Type 0
is_in lower upper None = Unit {0}
is_in lower upper (Some p) = (p.0 < length lower) × (p.1 < length upper)

-- a line of at most 256 words, each of at most 2^40 accesses
pub record AreFew (line : List Word) : Type 0 where
  pub short : length line ≤ 256
  pub few : All (λ w. accesses w ≤ 2 ^ 40) line

-- the pairs of word i of the lower line with the first n of the upper one
abbrev pub row_pairs : ℕ → ℕ → List (ℕ × ℕ)
row_pairs i n = map (λ j. (i, j)) (below n)
