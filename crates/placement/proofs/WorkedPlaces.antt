-- Worked lists, computed from the definitions.
use Rattle.std.proofs.Common.{◌≡◌, ℕ, List, [], ◌∷◌, None, Some, false, true, codes, refl}
use Rattle.std.specs.Prelude.{pos}
use Rattle.base.specs.Touch.{Touch}
use Rattle.base.specs.declared.access.Kind.TheVariants.{Write}
use Rattle.base.specs.declared.layout.Range.{Range}
use Rattle.objects.specs.declared.symbol.SymbolKind.TheVariants.{Function, Object}
use Rattle.sharing_rules.specs.Places.{count_places, first_place}
use Rattle.trace_format.specs.declared.record.TraceRecord.{TraceRecord}
use Rattle.trace_format.specs.declared.record.TraceRecord.TheVariants as records
use Rattle.placement.specs.Groups.{group_count, many_group, untouched_group}
use Rattle.placement.specs.ObjectLines.{is_object_line, object_total}
use Rattle.placement.specs.Plans.{Planned, has_room, plan_of}
use Rattle.placement.specs.Recounts.{area_count, is_line_in}
use Rattle.placement.specs.Sought.{is_too_large, object_of}
use Rattle.placement.specs.Texts.{Sums, sums_of}
use Rattle.placement.specs.Words.{owned_of, words_of}
use Rattle.placement.specs.declared.extent.Extent.{Extent}

abbrev wr : ℕ → ℕ → Touch
wr h a = record { hart = h; addr = a; kind = Write; size = 4 }

abbrev extent : ℕ → ℕ → Extent
extent a n = record { addr = a; size = n }

abbrev sums : Sums → ℕ × ℕ × ℕ
sums x = (x.before, x.after, x.many)

abbrev area : Planned → List ℕ × ℕ × ℕ
area p = (p.places, p.start, p.size)

-- two harts write neighbouring words in turn: each word goes to a line of its own, and no
-- invalidation is left
abbrev in_turn : List Touch
in_turn = wr 0 0x1000 ∷ (wr 1 0x1004 ∷ (wr 0 0x1000 ∷ []))

pair_is : (area (plan_of 64 (owned_of (extent 0x1000 8) in_turn))
    ≡ (0x1040 ∷ 0x1080 ∷ [], 0x1040, 128))
    × (sums (sums_of 64 (plan_of 64 (owned_of (extent 0x1000 8) in_turn)) in_turn) ≡ (2, 0, 0))
unfolding count_places first_place group_count many_group untouched_group
pair_is = (refl, refl)

-- a word of two harts takes its invalidations along
abbrev shared : List Touch
shared = wr 0 0x1000 ∷ (wr 1 0x1000 ∷ [])

one_is : (area (plan_of 64 (owned_of (extent 0x1000 4) shared)) ≡ (0x1040 ∷ [], 0x1040, 64))
    × (sums (sums_of 64 (plan_of 64 (owned_of (extent 0x1000 4) shared)) shared) ≡ (1, 1, 1))
    × (area_count 64 (plan_of 64 (owned_of (extent 0x1000 4) shared)) shared ≡ 1)
unfolding count_places first_place group_count many_group untouched_group
one_is = (refl, refl, refl)

-- an object's lines, and what they count: two words on one line, which nothing else uses
lines_are : (object_total 64 (extent 0x1000 8) in_turn ≡ 2)
    × (object_total 64 (extent 0x1040 8) in_turn ≡ 0)
    × (is_object_line 64 (extent 0x103c 8) 65 ≡ true)
    × (is_object_line 64 (extent 0x103c 8) 66 ≡ true)
    × (is_object_line 64 (extent 0x103c 8) 67 ≡ false)
unfolding count_places first_place
lines_are = (refl, refl, refl, refl, refl)

-- line 66 of 64 bytes is 0x1040 to 0x107f: it lies in its own range, and its neighbours don't, nor
-- does it in a range that begins or ends within it
abbrev range : ℕ → ℕ → Range
range a n = record { base = pos a; size = n }

line_in : (is_line_in 64 (range 0x1040 64) 66 ≡ true)
    × (is_line_in 64 (range 0x1040 64) 65 ≡ false)
    × (is_line_in 64 (range 0x1040 64) 67 ≡ false)
    × (is_line_in 64 (range 0x1044 128) 66 ≡ false)
    × (is_line_in 64 (range 0x1000 127) 66 ≡ false)
line_in = (refl, refl, refl, refl, refl)

-- there is no line behind the last word
no_room : has_room 64 (owned_of (extent 0xfffffffc 4) (wr 0 0xfffffffc ∷ [])) ≡ false
unfolding group_count many_group untouched_group
no_room = refl

-- an object's words are those that share a byte with it, and end with the address space
words_are : (words_of (extent 0x1003 2) ≡ 0x1000 ∷ 0x1004 ∷ [])
    × (words_of (extent 0xfffffffe 8) ≡ 0xfffffffc ∷ [])
words_are = (refl, refl)

-- the first object of the name, no function, and a block that stood alone at its address
abbrev stated : List TraceRecord
stated =
    records.Symbol Function 0x500 8 (codes "pair") ∷ (records.Symbol Object 0x1000 8 (codes "pair")
    ∷ (records.Symbol Object 0x2000 4 (codes "pair") ∷ (records.Alloc 0x8000 12 (0 ∷ 0 ∷ 0 ∷ 0 ∷ [])
    ∷ (records.Alloc 0x9000 12 (0 ∷ 0 ∷ 0 ∷ 0 ∷ []) ∷ (records.Free 0x9000
    ∷ (records.Alloc 0x9000 16 (0 ∷ 0 ∷ 0 ∷ 0 ∷ []) ∷ []))))))

found : (object_of (codes "pair") None stated ≡ Some (extent 0x1000 8))
    × (object_of (codes "two") None stated ≡ None)
    × (object_of (codes "0x8000") (Some 0x8000) stated ≡ Some (extent 0x8000 12))
    × (object_of (codes "0x9000") (Some 0x9000) stated ≡ None)
found = (refl, refl, refl, refl)

limits : (is_too_large (extent 0 0x1000000) ≡ false) × (is_too_large (extent 0 0x1000001) ≡ true)
limits = (refl, refl)
