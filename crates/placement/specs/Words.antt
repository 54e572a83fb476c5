-- The words of an object, and which harts touch each.
use Rattle.std.specs.Prelude.{ℕ, ◌+◌, ◌-◌, ◌*◌, ◌/◌, ◌%◌, ◌^◌, min, max, Bool, ◌&&◌, ◌==◌, nat_le}
use Rattle.std.specs.Prelude.{nat_lt, List, [], ◌∷◌, map, filter, Option, Some, None}
use Rattle.std.specs.Prelude.{if◌then◌else◌, option_and_then, slice_get}
use Rattle.base.specs.Touch.{word_of}
use Rattle.sharing_rules.specs.AccessLists.{AccessList}
use Rattle.sharing_rules.specs.Places.{below}
use Rattle.sharing_rules.specs.Words.{tally}
use Rattle.sharing_rules.specs.declared.word.Owner.{Owner}
use Rattle.placement.specs.declared.extent.Extent.{Extent}

-- The number of an object's first word, and the number behind its last: its words are those of 4
-- bytes, below address 2^32, that share a byte with it. Word w begins at address 4 * w.
abbrev pub first_word : Extent → ℕ
first_word e = e.addr / 4

abbrev pub past_word : Extent → ℕ
past_word e = min (2 ^ 30) ((e.addr + e.size + 3) / 4)

abbrev pub word_count : Extent → ℕ
word_count e = past_word e - first_word e

-- where its words begin, rising
abbrev pub words_of : Extent → List ℕ
words_of e = map (λ i. 4 * (first_word e + i)) (below (word_count e))

-- whether one of its words begins at an address
abbrev pub is_word_of : Extent → ℕ → Bool
is_word_of e word =
    (word % 4 == 0) && (nat_le (first_word e) (word / 4) && nat_lt (word / 4) (past_word e))

-- none, the one or many: the harts of a list that touch word w
abbrev pub owner_in : AccessList → ℕ → Owner
owner_in t w = (tally (filter (λ a. a.addr / 4 == w) t)).owner

abbrev pub owners_of : Extent → AccessList → List Owner
owners_of e t = map (λ i. owner_in t (first_word e + i)) (below (word_count e))

-- the end of the greatest word that a list touches, 0 where it touches none
abbrev pub end_of : AccessList → ℕ
end_of [] = 0
end_of (a ∷ t) = max (word_of a.addr + 4) (end_of t)

-- an object, the owners of its words, and the end of the accesses
pub record Owned : Type 0 where
  pub extent : Extent
  pub owners : List Owner
  pub end : ℕ

-- the same for a list of accesses
abbrev pub owned_of : Extent → AccessList → Owned
owned_of e t = record { extent = e; owners = owners_of e t; end = end_of t }

-- which word of an object begins at an address, if one does
abbrev pub index_of : Extent → ℕ → Option ℕ
index_of e word = if is_word_of e word then Some (word / 4 - first_word e) else None

-- the owner of the word that begins at an address, if it is one of the object's
abbrev pub owner_at : Owned → ℕ → Option Owner
owner_at o word = option_and_then (slice_get o.owners) (index_of o.extent word)
