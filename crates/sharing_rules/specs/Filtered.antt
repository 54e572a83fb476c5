-- Filtered lists: access lists without the accesses that change no cache, whatever the layout. The
-- idea of trace reduction is Smith's, "Two methods for the efficient analysis of memory address
-- trace data" (IEEE Transactions on Software Engineering, 1977), for one processor.
use Rattle.std.specs.Prelude.{◌≡◌, ℕ, ◌+◌, ◌/◌, ◌^◌, Bool, true, false, not, ◌&&◌, ◌||◌, ◌==◌}
use Rattle.std.specs.Prelude.{nat_le, if◌then◌else◌, List, drop, length, slice_get, None}
use Rattle.std.specs.Option.{option_map_or}
use Rattle.std.specs.List.{filter_map, list_any}
use Rattle.base.specs.Touch.{Touch, is_write, word_of}
use Rattle.sharing_rules.specs.AccessLists.{AccessList}
use Rattle.sharing_rules.specs.Places.{Question, below, passes_at}

-- Two addresses are near under k where the ranges of 2^k bytes in which they lie, which begin at
-- multiples of 2^k, are the same or neighbours.
abbrev pub is_near : ℕ → ℕ → ℕ → Bool
is_near k x y = nat_le (x / 2 ^ k) (y / 2 ^ k + 1) && nat_le (y / 2 ^ k) (x / 2 ^ k + 1)

-- an access by another hart than h that is near an address
abbrev pub comes_near : ℕ → ℕ → ℕ → Touch → Bool
comes_near k h x c = not (c.hart == h) && is_near k c.addr x

-- access b is by the hart of a, of the same word, and does all that a does: it is a write, or a is
-- a read
abbrev pub covers : Touch → Touch → Bool
covers b a = (b.hart == a.hart) && (word_of b.addr == word_of a.addr)
    && (is_write b.kind || not (is_write a.kind))

-- the access at place j covers a, and no other hart came near a since
abbrev pub is_witness : ℕ → AccessList → Touch → ℕ → Bool
is_witness k before a j = option_map_or (λ b. covers b a) (slice_get before j) false
    && not (list_any (comes_near k a.hart a.addr) (drop (j + 1) before))

-- a redundant access: one with a witness
abbrev pub is_redundant : ℕ → Question
is_redundant k before a = list_any (is_witness k before a) (below (length before))

-- the elements of a list at the places that pass, in order
abbrev pub at_places : {X : Type 0} → (ℕ → Bool) → List X → List X
at_places p u = filter_map (λ i. if p i then slice_get u i else None) (below (length u))

-- the places of the accesses that aren't redundant
abbrev pub is_kept_at : ℕ → AccessList → ℕ → Bool
is_kept_at k t i = not (passes_at (is_redundant k) t i)

-- the filtered list under k: the accesses that aren't redundant
unfoldable pub filtered : ℕ → AccessList → AccessList
filtered k t = at_places (is_kept_at k t) t

-- a list v is a list t without some of its redundant accesses, or all: whatever isn't redundant is
-- kept
pub record IsWithoutRedundant (k : ℕ) (t v : AccessList) : Type 0 where
  pub kept : ℕ → Bool
  pub needed : (i : ℕ) → is_kept_at k t i ≡ true → kept i ≡ true
  pub rest : v ≡ at_places kept t
