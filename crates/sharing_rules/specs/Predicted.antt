-- Predicted lines: their opening and their start. n is the native line size, T the tracking and P
-- the prediction threshold; a pair of neighbours is named by the number k of its lower line.
use Rattle.std.specs.Prelude.{ℕ, suc, ◌+◌, ◌-◌, ◌*◌, ◌/◌, ◌%◌, Bool, ◌&&◌, ◌||◌, ◌==◌, eqb, [], ◌∷◌}
use Rattle.std.specs.Prelude.{◌++◌, Option, take, is_some, option_and_then, option_map}
use Rattle.std.specs.List.{list_any}
use Rattle.sharing_rules.specs.AccessLists.{AccessList, writes_to}
use Rattle.sharing_rules.specs.Places.{Question, first_place}
use Rattle.sharing_rules.specs.Lines.{Line, is_inside, native_line, line_from}
use Rattle.sharing_rules.specs.Words.{words_since}
use Rattle.sharing_rules.specs.Pairs.{best_pair_of}
use Rattle.sharing_rules.specs.Observed.{write_count, observed_start, first_write_from}

-- the native line sizes
abbrev pub is_native_size : ℕ → Bool
is_native_size n = list_any (eqb n) (32 ∷ 64 ∷ 128 ∷ 256 ∷ [])

-- a write of line k that brings its writes to a multiple of P
abbrev pub is_candidate : ℕ → ℕ → ℕ → Question
is_candidate n P k before a = writes_to (is_inside (native_line n k)) a &&
    ((write_count (is_inside (native_line n k)) before + 1) % P == 0)

-- the best hot pair of at most `within` bytes of lines k and k+1 after t, both observed, by the
-- places of its words
abbrev pub best_between : ℕ → ℕ → ℕ → ℕ → AccessList → Option (ℕ × ℕ)
best_between n T within k t =
    option_and_then
    (λ s. option_and_then (λ u. best_pair_of (words_since (native_line n k) s t)
    (words_since (native_line n (k + 1)) u t) within)
    (observed_start T (is_inside (native_line n (k + 1))) t))
    (observed_start T (is_inside (native_line n k)) t)

-- a candidate of either line of the pair, at which a hot pair of at most `within` bytes is found
abbrev pub is_opening : ℕ → ℕ → ℕ → ℕ → ℕ → Question
is_opening n T P within k before a =
    (is_candidate n P k before a || is_candidate n P (k + 1) before a) && is_some
    (best_between n T within k (before ++ a ∷ []))

-- A shifted line opens at the least one with a pair of at most n bytes,
abbrev pub shifted_opening : ℕ → ℕ → ℕ → ℕ → AccessList → Option ℕ
shifted_opening n T P k t = first_place (is_opening n T P n k) t

-- and a doubled line at the least one with any pair, only for an odd k, whose base is a multiple of
-- 2n.
abbrev pub doubled_opening : ℕ → ℕ → ℕ → ℕ → AccessList → Option ℕ
doubled_opening n T P k t =
    first_place (λ before a. (k % 2 == 1) && is_opening n T P (2 * n) k before a) t

-- the address of word i of native line k
abbrev pub word_address : ℕ → ℕ → ℕ → ℕ
word_address n k i = n * (k - 1) + 4 * i

-- the base of a shifted line for the words at x and y: half of what they leave of n bytes goes
-- before x
abbrev pub shifted_base : ℕ → ℕ → ℕ → ℕ
shifted_base n x y = x - 4 * ((n - (y + 4 - x)) / 8)

-- the shifted line for the words of a pair of neighbours at two places
abbrev pub shifted_around : ℕ → ℕ → ℕ × ℕ → Line
shifted_around n k p =
    line_from n (shifted_base n (word_address n k p.0) (word_address n (k + 1) p.1))

-- the shifted line by the best hot pair after the access at o
abbrev pub shifted_line_at : ℕ → ℕ → ℕ → ℕ → AccessList → Option Line
shifted_line_at n T k o t = option_map (shifted_around n k) (best_between n T n k (take (suc o) t))

-- the shifted line of a pair of neighbours, by the best hot pair at its opening
abbrev pub shifted_line : ℕ → ℕ → ℕ → ℕ → AccessList → Option Line
shifted_line n T P k t = option_and_then (λ o. shifted_line_at n T k o t)
    (shifted_opening n T P k t)

-- the doubled line of an even pair
abbrev pub doubled_line : ℕ → ℕ → Line
doubled_line n k = line_from (2 * n) (word_address n k 0)

-- a predicted line starts at the first write in it after its opening
abbrev pub predicted_start : ℕ → Line → AccessList → Option ℕ
predicted_start opening l t = first_write_from (suc opening) (is_inside l) t
