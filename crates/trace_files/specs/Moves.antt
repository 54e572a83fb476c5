-- Where the accesses of a list go by a table, and what is true of its moves.
use Rattle.std.specs.Prelude.{◌≡◌, ◌↔◌, ℕ, ◌+◌, ◌-◌, ◌<◌, Bool, false, not, ◌&&◌, nat_eq, nat_le, nat_lt}
use Rattle.std.specs.Prelude.{List, filter, find, map}
use Rattle.std.specs.Option.{option_map_or}
use Rattle.std.specs.List.{All, Contains, count_by, list_any}
use Rattle.base.specs.Touch.{Touch, word_of}
use Rattle.trace_files.specs.declared.move_row.Move.{Move}

-- ---- addresses

-- a byte lies in the range of a move, or in its place
abbrev pub is_in_range : ℕ → Move → Bool
is_in_range addr m = nat_le m.from addr && nat_lt addr (m.from + m.size)

abbrev pub is_in_place : ℕ → Move → Bool
is_in_place addr m = nat_le m.to addr && nat_lt addr (m.to + m.size)

-- the same byte of the place
abbrev pub carried : ℕ → Move → ℕ
carried addr m = addr - m.from + m.to

-- whether a byte is moved, as one in a range is
abbrev pub is_moved : List Move → ℕ → Bool
is_moved table addr = list_any (is_in_range addr) table

-- where a byte is then; one that isn't moved stays
unfoldable pub moved_addr : List Move → ℕ → ℕ
moved_addr table addr = option_map_or (carried addr) (find (is_in_range addr) table) addr

-- a byte that stays lies where a moved one goes
unfoldable pub is_taken : List Move → ℕ → Bool
is_taken table addr = list_any (is_in_place addr) table && not (is_moved table addr)

-- ---- accesses

-- an access in a range has the address plus TO - FROM
abbrev pub moved_in : List Move → Touch → Touch
moved_in table a = record a { addr = moved_addr table a.addr }

abbrev pub moved_list : List Move → List Touch → List Touch
moved_list table accesses = map (moved_in table) accesses

-- no access that stays lies where one may go
abbrev pub IsFree : List Move → List Touch → Type 0
IsFree table accesses = All (λ a. is_taken table a.addr ≡ false) accesses

-- how many accesses are moved
abbrev pub count_moved : List Move → List Touch → ℕ
count_moved table accesses = count_by (λ a. is_moved table a.addr) accesses

-- ---- what a free list keeps

-- those that lie in a word
abbrev pub accesses_in : ℕ → List Touch → List Touch
accesses_in word accesses = filter (λ a. nat_eq (word_of a.addr) word) accesses

-- each two accesses lie in one word exactly where they do once they are moved
abbrev pub KeepsWords : List Move → List Touch → Type 0
KeepsWords table accesses =
    (a b : Touch) → Contains accesses a → Contains accesses b
    → (word_of (moved_in table a).addr ≡ word_of (moved_in table b).addr)
    ↔ (word_of a.addr ≡ word_of b.addr)

-- byte i of one is byte j of another exactly where it is once they are moved
abbrev pub KeepsBytes : List Move → List Touch → Type 0
KeepsBytes table accesses =
    (a b : Touch) (i j : ℕ) → Contains accesses a → Contains accesses b → i < a.size → j < b.size
    → ((moved_in table a).addr + i ≡ (moved_in table b).addr + j)
    ↔ (a.addr + i ≡ b.addr + j)

-- the accesses in the word of one are those in the word that it goes to, each moved, and so with the
-- same harts, kinds and sizes
abbrev pub KeepsAccesses : List Move → List Touch → Type 0
KeepsAccesses table accesses =
    (a : Touch) → Contains accesses a
    → accesses_in (word_of (moved_in table a).addr) (moved_list table accesses)
    ≡ moved_list table (accesses_in (word_of a.addr) accesses)
