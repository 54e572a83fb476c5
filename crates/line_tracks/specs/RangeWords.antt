-- The words of a range of addresses: what was counted of each.
use Rattle.std.specs.Prelude.{◌≡◌, ℕ, ◌*◌, ◌/◌, ◌≤◌, ◌^◌, pos, ◌-ℤ◌, nat_abs, Bool, false, ◌==◌}
use Rattle.std.specs.Prelude.{nat_le, IsTrue, List, [], map, length, sum_by, slice_get, slice_set}
use Rattle.std.specs.List.{All}
use Rattle.std.specs.Option.{option_map_or}
use Rattle.base.specs.Touch.{Touch}
use Rattle.base.specs.declared.layout.Range.{Range}
use Rattle.sharing_rules.specs.Places.{below}
use Rattle.sharing_rules.specs.Pairs.{is_hot}
use Rattle.sharing_rules.specs.Words.{accesses, note_word, tally}
use Rattle.sharing_rules.specs.declared.word.Owner.{Owner}
use Rattle.sharing_rules.specs.declared.word.Owner.TheVariants as owner
use Rattle.sharing_rules.specs.declared.word.Word.{Word}

-- a range and its words of 4 bytes in order
pub record RangeWords : Type 0 where
  pub range : Range
  pub words : List Word

-- whether n accesses can have an owner: none has no access, one hart at least one, and many at
-- least two
abbrev pub can_own : Owner → ℕ → Bool
can_own owner.None n = n == 0
can_own (owner.One h) n = nat_le 1 n
can_own owner.Many n = nat_le 2 n

-- a word whose owner is one that its accesses can have
abbrev pub is_possible : Word → Bool
is_possible w = can_own w.owner (accesses w)

-- a word for each 4 bytes, each possible, of at most 2^40 accesses together
pub record AreWords (v : RangeWords) : Type 0 where
  pub size : 4 * length v.words ≡ v.range.size
  pub possible : All (λ w. IsTrue (is_possible w)) v.words
  pub few : sum_by accesses v.words ≤ 2 ^ 40

-- the words of a range that no one touched
abbrev pub blank : Range → RangeWords
blank r = record { range = r; words = map (λ i. tally []) (below (r.size / 4)) }

-- which word of a range an address is in
abbrev pub word_index : Range → ℕ → ℕ
word_index r a = nat_abs (pos a -ℤ r.base) / 4

-- with word i another one
abbrev pub set_word : RangeWords → ℕ → Word → RangeWords
set_word v i w = record { range = v.range; words = slice_set v.words i w }

-- with one access more of the word that it touches
abbrev pub note_words : RangeWords → Touch → RangeWords
note_words v a = option_map_or (λ w. set_word v (word_index v.range a.addr) (note_word w a))
    (slice_get v.words (word_index v.range a.addr)) v

-- whether word i is hot
abbrev pub is_hot_place : List Word → ℕ → Bool
is_hot_place words i = option_map_or (is_hot words) (slice_get words i) false
