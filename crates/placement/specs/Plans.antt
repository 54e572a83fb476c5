-- A plan: where each word of an object goes, so that no line has words of two harts.
use Rattle.std.specs.Prelude.{◌≡◌, ℕ, ◌≤◌, ◌+◌, ◌*◌, ◌%◌, ◌^◌, Bool, nat_le, nat_lt, List, map, take}
use Rattle.std.specs.Prelude.{count_by, length, pos, Option, Some, None, slice_get, if◌then◌else◌}
use Rattle.std.specs.Prelude.{option_and_then}
use Rattle.std.specs.Option.{option_map_or}
use Rattle.base.specs.declared.layout.Range.{Range}
use Rattle.base.specs.Touch.{Touch, word_of}
use Rattle.sharing_rules.specs.AccessLists.{AccessList}
use Rattle.sharing_rules.specs.Places.{below}
use Rattle.sharing_rules.specs.declared.word.Owner.{Owner}
use Rattle.placement.specs.Groups.{area_length, group_of, group_room, group_size, group_start}
use Rattle.placement.specs.Groups.{is_in, many_group, rounded}
use Rattle.placement.specs.Words.{Owned, index_of}
use Rattle.placement.specs.declared.extent.Extent.{Extent}

-- The area begins at the first line behind all accesses.
abbrev pub area_start : ℕ → Owned → ℕ
area_start n o = rounded n o.end

-- it ends at 2^32 or before
abbrev pub has_room : ℕ → Owned → Bool
has_room n o = nat_le (area_start n o + area_length n o.owners) (2 ^ 32)

-- The groups follow each other in the area, each from the beginning of a line on. The words of a
-- group stand next to each other, in the order of their addresses.
abbrev pub place_behind : ℕ → List Owner → ℕ → Owner → ℕ
place_behind n owners i o =
    group_start n owners (group_of o) + 4 * count_by (is_in (group_of o)) (take i owners)

-- the place of word i, in an area that begins at a number
abbrev pub place_from : ℕ → ℕ → List Owner → ℕ → ℕ
place_from n start owners i =
    option_map_or (λ w. start + place_behind n owners i w) (slice_get owners i) 0

-- the place of word i of an object
abbrev pub place : ℕ → Owned → ℕ → ℕ
place n o i = place_from n (area_start n o) o.owners i

-- the lines of the words of many harts, if there are such words, in an area that begins at a number
abbrev pub lines_from : ℕ → ℕ → List Owner → Option Range
lines_from n start owners =
    if nat_lt 0 (group_size owners many_group) then Some (record {
      base = pos (start + group_start n owners many_group);
      size = group_room n owners many_group;
    })
    else None

abbrev pub many_lines : ℕ → Owned → Option Range
many_lines n o = lines_from n (area_start n o) o.owners

-- an object, the places of its words in their order, the area, and the lines of many harts
pub record Planned : Type 0 where
  pub extent : Extent
  pub places : List ℕ
  pub start : ℕ
  pub size : ℕ
  pub many : Option Range

abbrev pub plan_of : ℕ → Owned → Planned
plan_of n o = record {
  extent = o.extent;
  places = map (place n o) (below (length o.owners));
  start = area_start n o;
  size = area_length n o.owners;
  many = many_lines n o;
}

-- each place is that of a word below 2^32
abbrev pub ArePlaces : List ℕ → Type 0
ArePlaces places =
    (i x : ℕ) → slice_get places i ≡ Some x → (x % 4 ≡ 0) × (x + 4 ≤ 2 ^ 32)

-- the place of the word that begins at an address, if it is one of the object's
abbrev pub place_at : Planned → ℕ → Option ℕ
place_at p word = option_and_then (slice_get p.places) (index_of p.extent word)

-- an access at the same byte of another word
abbrev pub in_word : Touch → ℕ → Touch
in_word a word = record {
  hart = a.hart;
  addr = word + a.addr % 4;
  kind = a.kind;
  size = a.size;
}

-- An access of a word of the object goes to the same byte of the word at its place. All others stay.
abbrev pub moved : Planned → Touch → Touch
moved p a = option_map_or (in_word a) (place_at p (word_of a.addr)) a

abbrev pub moved_list : Planned → AccessList → AccessList
moved_list p t = map (moved p) t
