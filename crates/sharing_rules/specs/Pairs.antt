-- Hot pairs of two neighbouring lines. The words of a line stand in order; a pair names one of each
-- by its place.
use Rattle.std.specs.Prelude.{ℕ, ◌+◌, ◌*◌, min, Bool, false, not, ◌&&◌, ◌||◌, ◌==◌, nat_lt, nat_le}
use Rattle.std.specs.Prelude.{if◌then◌else◌, List, [], ◌∷◌, map, filter, flat_map, length, sum_by}
use Rattle.std.specs.Prelude.{slice_get, Option, Some, None}
use Rattle.std.specs.Option.{option_map_or}
use Rattle.sharing_rules.specs.Places.{below}
use Rattle.sharing_rules.specs.Words.{accesses}
use Rattle.sharing_rules.specs.declared.word.Word.{Word}
use Rattle.sharing_rules.specs.declared.word.Owner.{Owner}
use Rattle.sharing_rules.specs.declared.word.Owner.TheVariants as owner

-- accessed, and no less than the mean of the line's words
abbrev pub is_hot : List Word → Word → Bool
is_hot line w = nat_lt 0 (accesses w) && nat_le (sum_by accesses line) (length line * accesses w)

-- both have one and the same single hart
abbrev pub is_same_hart : Owner → Owner → Bool
is_same_hart (owner.One g) (owner.One h) = g == h
is_same_hart (owner.One g) owner.None = false
is_same_hart (owner.One g) owner.Many = false
is_same_hart owner.None y = false
is_same_hart owner.Many y = false

-- a hot word of each, of which one was written, and not both of one single hart
abbrev pub is_hot_pair : List Word → List Word → Word → Word → Bool
is_hot_pair lower upper x y =
    is_hot lower x && is_hot upper y && (nat_lt 0 x.writes || nat_lt 0 y.writes) && not
    (is_same_hart x.owner y.owner)

abbrev pub is_hot_at : List Word → List Word → ℕ × ℕ → Bool
is_hot_at lower upper p =
    option_map_or (λ x. option_map_or (is_hot_pair lower upper x) (slice_get upper p.1) false)
    (slice_get lower p.0) false

-- From the beginning of word i of the lower line to the end of word j of the upper it is at most
-- `within` bytes; the lower line has n words.
abbrev pub is_near : ℕ → ℕ → ℕ × ℕ → Bool
is_near n within p = nat_le (4 * (n + p.1) + 4) (within + 4 * p.0)

-- the lesser of the two words' accesses
abbrev pub score : List Word → List Word → ℕ × ℕ → ℕ
score lower upper p =
    option_map_or (λ x. option_map_or (λ y. min (accesses x) (accesses y)) (slice_get upper p.1) 0)
    (slice_get lower p.0) 0

-- all pairs of places, by the lower place first
abbrev pub all_pairs : ℕ → ℕ → List (ℕ × ℕ)
all_pairs n m = flat_map (λ i. map (λ j. (i, j)) (below m)) (below n)

-- the first of those with the greatest score
abbrev pub first_best : (ℕ × ℕ → ℕ) → List (ℕ × ℕ) → Option (ℕ × ℕ)
first_best f [] = None
first_best f (p ∷ ps) = option_map_or (λ q. if nat_lt (f p) (f q) then Some q else Some p)
    (first_best f ps) (Some p)

-- the hot pairs of at most `within` bytes, in order
abbrev pub hot_pairs : List Word → List Word → ℕ → List (ℕ × ℕ)
hot_pairs lower upper within =
    filter (λ p. is_hot_at lower upper p && is_near (length lower) within p)
    (all_pairs (length lower) (length upper))

-- the hot pair of the greatest score; ties go to the lower place in the lower line, then in the
-- upper one
unfoldable pub best_pair_of : List Word → List Word → ℕ → Option (ℕ × ℕ)
best_pair_of lower upper within = first_best (score lower upper) (hot_pairs lower upper within)
