-- Worked tables and moved traces: each is closed by computing.
use Rattle.std.proofs.Common.{◌≡◌, ℕ, List, [], ◌∷◌, Some, None, Ok, Err, refl}
use Rattle.base.specs.declared.access.Kind.{Kind}
use Rattle.base.specs.declared.access.Kind.TheVariants.{Read, Write}
use Rattle.trace_format.specs.declared.record.TraceRecord.{TraceRecord}
use Rattle.trace_format.specs.declared.record.TraceRecord.TheVariants as records
use Rattle.trace_format.specs.declared.record.Version.TheVariants.{Three, Two}
use Rattle.trace_format.specs.Spelling.{no_pcs, nothing_before, spell_records, spell_touch}
use Rattle.trace_format.specs.Rules.{touches_in}
use Rattle.trace_files.specs.declared.table_fault.TableFault.TheVariants.{BadLine, Overlap}
use Rattle.trace_files.specs.Moves.{count_moved, is_taken, moved_addr}
use Rattle.trace_files.specs.Moving.{first_fault, moved_items, narrowed}
use Rattle.trace_files.specs.NearMoves.{is_far}
use Rattle.trace_files.specs.declared.move_fault.MoveFault.TheVariants.{Far, Occupied}
use Rattle.trace_files.specs.Numerals.{decimal_of, hexadecimal_of, number_of}
use Rattle.trace_files.specs.Tables.{move_of, table_of}
use Rattle.trace_files.specs.declared.move_row.Move.{Move}

abbrev pub move : ℕ → ℕ → ℕ → Move
move from size to = record { from = from; size = size; to = to }

-- `0x11000 4 0x11080` and `0x11004 4 0x11040`
two_lines : table_of (48 ∷ 120 ∷ 49 ∷ 49 ∷ 48 ∷ 48 ∷ 48 ∷ 32 ∷ 52 ∷ 32 ∷ 48 ∷ 120 ∷ 49 ∷ 49 ∷ 48 ∷ 56 ∷ 48 ∷ 10 ∷ 48 ∷ 120 ∷ 49 ∷ 49 ∷ 48 ∷ 48 ∷ 52 ∷ 32 ∷ 52 ∷ 32 ∷ 48 ∷ 120 ∷ 49 ∷ 49 ∷ 48 ∷ 52 ∷ 48 ∷ 10 ∷ [])
    ≡ Ok (move 0x11000 4 0x11080 ∷ move 0x11004 4 0x11040 ∷ [])
unfolding move_of number_of decimal_of hexadecimal_of
two_lines = refl

-- no line at all, and two empty ones
no_line : table_of (10 ∷ 10 ∷ [])
    ≡ Ok []
unfolding move_of number_of decimal_of hexadecimal_of
no_line = refl

-- `0 4294967296 0`, the whole memory
largest : table_of (48 ∷ 32 ∷ 52 ∷ 50 ∷ 57 ∷ 52 ∷ 57 ∷ 54 ∷ 55 ∷ 50 ∷ 57 ∷ 54 ∷ 32 ∷ 48 ∷ [])
    ≡ Ok (move 0 4294967296 0 ∷ [])
unfolding move_of number_of decimal_of hexadecimal_of
largest = refl

-- `0x1000 4 0x1004` and `0x1004 4 0x1000`
swapped : table_of (48 ∷ 120 ∷ 49 ∷ 48 ∷ 48 ∷ 48 ∷ 32 ∷ 52 ∷ 32 ∷ 48 ∷ 120 ∷ 49 ∷ 48 ∷ 48 ∷ 52 ∷ 10 ∷ 48 ∷ 120 ∷ 49 ∷ 48 ∷ 48 ∷ 52 ∷ 32 ∷ 52 ∷ 32 ∷ 48 ∷ 120 ∷ 49 ∷ 48 ∷ 48 ∷ 48 ∷ 10 ∷ [])
    ≡ Ok (move 0x1000 4 0x1004 ∷ move 0x1004 4 0x1000 ∷ [])
unfolding move_of number_of decimal_of hexadecimal_of
swapped = refl

-- `0 4 8 `
space_last : table_of (48 ∷ 32 ∷ 52 ∷ 32 ∷ 56 ∷ 32 ∷ [])
    ≡ Err (BadLine 1)
unfolding move_of number_of decimal_of hexadecimal_of
space_last = refl

-- an empty line, then `0 6 8`
not_of_words : table_of (10 ∷ 48 ∷ 32 ∷ 54 ∷ 32 ∷ 56 ∷ 10 ∷ [])
    ≡ Err (BadLine 2)
unfolding move_of number_of decimal_of hexadecimal_of
not_of_words = refl

-- `0 8 64` and `8 4 68`
meeting : table_of (48 ∷ 32 ∷ 56 ∷ 32 ∷ 54 ∷ 52 ∷ 10 ∷ 56 ∷ 32 ∷ 52 ∷ 32 ∷ 54 ∷ 56 ∷ 10 ∷ [])
    ≡ Err (Overlap 2)
unfolding move_of number_of decimal_of hexadecimal_of
meeting = refl

-- `8 4 64` and `4 8 80`
falling : table_of (56 ∷ 32 ∷ 52 ∷ 32 ∷ 54 ∷ 52 ∷ 10 ∷ 52 ∷ 32 ∷ 56 ∷ 32 ∷ 56 ∷ 48 ∷ 10 ∷ [])
    ≡ Err (BadLine 2)
unfolding move_of number_of decimal_of hexadecimal_of
falling = refl

-- `0 0 8`
no_byte : table_of (48 ∷ 32 ∷ 48 ∷ 32 ∷ 56 ∷ [])
    ≡ Err (BadLine 1)
unfolding move_of number_of decimal_of hexadecimal_of
no_byte = refl

-- `0xfffffffc 8 0`, which ends above 2^32
beyond : table_of (48 ∷ 120 ∷ 102 ∷ 102 ∷ 102 ∷ 102 ∷ 102 ∷ 102 ∷ 102 ∷ 99 ∷ 32 ∷ 56 ∷ 32 ∷ 48 ∷ [])
    ≡ Err (BadLine 1)
unfolding move_of number_of decimal_of hexadecimal_of
beyond = refl

-- `0x000000000 4 8`
nine_digits : table_of (48 ∷ 120 ∷ 48 ∷ 48 ∷ 48 ∷ 48 ∷ 48 ∷ 48 ∷ 48 ∷ 48 ∷ 48 ∷ 32 ∷ 52 ∷ 32 ∷ 56 ∷ [])
    ≡ Err (BadLine 1)
unfolding move_of number_of decimal_of hexadecimal_of
nine_digits = refl

-- `00 4 8`
leading_zero : table_of (48 ∷ 48 ∷ 32 ∷ 52 ∷ 32 ∷ 56 ∷ [])
    ≡ Err (BadLine 1)
unfolding move_of number_of decimal_of hexadecimal_of
leading_zero = refl

-- `0X10 4 8`
capital_mark : table_of (48 ∷ 88 ∷ 49 ∷ 48 ∷ 32 ∷ 52 ∷ 32 ∷ 56 ∷ [])
    ≡ Err (BadLine 1)
unfolding move_of number_of decimal_of hexadecimal_of
capital_mark = refl

-- `0xaB0 4 0xAb4`
both_cases : table_of (48 ∷ 120 ∷ 97 ∷ 66 ∷ 48 ∷ 32 ∷ 52 ∷ 32 ∷ 48 ∷ 120 ∷ 65 ∷ 98 ∷ 52 ∷ [])
    ≡ Ok (move 0xab0 4 0xab4 ∷ [])
unfolding move_of number_of decimal_of hexadecimal_of
both_cases = refl

-- `0 8 64`, `8 4 68` and `x`
first_counts : table_of (48 ∷ 32 ∷ 56 ∷ 32 ∷ 54 ∷ 52 ∷ 10 ∷ 56 ∷ 32 ∷ 52 ∷ 32 ∷ 54 ∷ 56 ∷ 10 ∷ 120 ∷ [])
    ≡ Err (Overlap 2)
unfolding move_of number_of decimal_of hexadecimal_of
first_counts = refl

-- ---- the accesses of two harts that write neighbouring words, `W0 1000`, `W1 1004`, `W0 1000`

abbrev write : ℕ → ℕ → TraceRecord
write hart addr = records.Touch (record { hart = hart; addr = addr; kind = Write; size = 4 }) None

neighbours : List TraceRecord
neighbours = write 0 0x1000 ∷ write 1 0x1004 ∷ write 0 0x1000 ∷ []

-- under `0x1004 4 0x1040` they are spelled so in version 2
one_moved : spell_records Two nothing_before
    (moved_items (move 0x1004 4 0x1040 ∷ []) neighbours)
    ≡ 0x24 ∷ 0 ∷ 0x80 ∷ 0x40 ∷ 0x24 ∷ 1 ∷ 0x80 ∷ 1 ∷ 0x24 ∷ 0 ∷ 0x7f ∷ []
unfolding neighbours moved_addr spell_touch
one_moved = refl

-- under `0x1004 4 0x1000` the first one is in the way
in_the_way : first_fault 0 (move 0x1004 4 0x1000 ∷ []) neighbours ≡ Some (Occupied 0x1000)
unfolding neighbours is_taken
in_the_way = refl

-- one of them is counted
one_counted : count_moved (move 0x1004 4 0x1040 ∷ []) (touches_in neighbours) ≡ 1
unfolding neighbours
one_counted = refl

-- `0x1000 4 0x1004` and `0x1004 4 0x1000` swap the words, so that nothing is in the way
all_swapped : moved_items (move 0x1000 4 0x1004 ∷ move 0x1004 4 0x1000 ∷ []) neighbours
    ≡ write 0 0x1004 ∷ write 1 0x1000 ∷ write 0 0x1004 ∷ []
unfolding neighbours moved_addr
all_swapped = refl

none_in_the_way : first_fault 0 (move 0x1000 4 0x1004 ∷ move 0x1004 4 0x1000 ∷ []) neighbours
    ≡ None
unfolding neighbours is_taken is_far
none_in_the_way = refl

-- ---- accesses with pcs, under `0x11000 4 0x11080` and `0x11004 4 0x11040`

sited : ℕ → ℕ → Kind → ℕ → ℕ → TraceRecord
sited hart addr kind size pc =
    records.Touch (record { hart = hart; addr = addr; kind = kind; size = size }) (Some pc)

three_harts : List TraceRecord
three_harts =
    sited 0 0x11008 Write 4 0x10004 ∷ sited 1 0x11004 Read 1 0x1003c
    ∷ sited 1 0x11004 Write 1 0x10044 ∷ sited 2 0x11005 Read 1 0x1003c
    ∷ sited 1 0x11004 Read 1 0x1003c ∷ sited 0 0x11000 Read 1 0x1003c ∷ []

before_moving : spell_records Three nothing_before three_harts
    ≡ 0x24 ∷ 0 ∷ 0x90 ∷ 0xc0 ∷ 8 ∷ 0x88 ∷ 0x80 ∷ 8 ∷ 0x11 ∷ 1 ∷ 7 ∷ 0xf8 ∷ 0x80 ∷ 8
    ∷ 0x21 ∷ 1 ∷ 0 ∷ 0x10 ∷ 0x11 ∷ 2 ∷ 2 ∷ 0xf8 ∷ 0x80 ∷ 8 ∷ 0x11 ∷ 1 ∷ 1 ∷ 0x0f
    ∷ 0x11 ∷ 0 ∷ 7 ∷ 0x70 ∷ []
unfolding three_harts sited spell_touch no_pcs
before_moving = refl

-- each is spelled against the address where the one before it went
behind_moved : spell_records Three nothing_before
    (moved_items (move 0x11000 4 0x11080 ∷ move 0x11004 4 0x11040 ∷ []) three_harts)
    ≡ 0x24 ∷ 0 ∷ 0x90 ∷ 0xc0 ∷ 8 ∷ 0x88 ∷ 0x80 ∷ 8 ∷ 0x11 ∷ 1 ∷ 0x70 ∷ 0xf8 ∷ 0x80 ∷ 8
    ∷ 0x21 ∷ 1 ∷ 0 ∷ 0x10 ∷ 0x11 ∷ 2 ∷ 2 ∷ 0xf8 ∷ 0x80 ∷ 8 ∷ 0x11 ∷ 1 ∷ 1 ∷ 0x0f
    ∷ 0x11 ∷ 0 ∷ 0x80 ∷ 1 ∷ 0x70 ∷ []
unfolding three_harts sited moved_addr spell_touch no_pcs
behind_moved = refl

-- ---- filtered lists, under regions of 64 bytes

-- two harts in words that aren't near
apart : List TraceRecord
apart = write 0 0x1000 ∷ sited 1 0x10c0 Read 4 0 ∷ []

-- without a line of the table none is far, nor where the list isn't filtered
none_far : first_fault 6 [] apart ≡ None
unfolding apart sited is_taken is_far
none_far = refl

not_filtered : first_fault 0 (move 0x10c0 4 0x1040 ∷ []) apart ≡ None
unfolding apart sited is_taken is_far
not_filtered = refl

-- `0x10c0 4 0x1040` brings a byte near the access of 0x1000, which isn't moved
beside_one_that_stays : first_fault 6 (move 0x10c0 4 0x1040 ∷ []) apart ≡ Some (Far 0x1000)
unfolding apart sited is_taken is_far moved_addr
beside_one_that_stays = refl

-- under regions of 128 bytes the two were near
near_before : first_fault 7 (move 0x10c0 4 0x1040 ∷ []) apart ≡ None
unfolding apart sited is_taken is_far moved_addr
near_before = refl

-- 0x1000 is moved beside a place to which 0x1100 goes, though nothing is accessed there
beside_one_that_goes : first_fault 6 (move 0x1000 4 0x2000 ∷ move 0x1100 4 0x2004 ∷ [])
    (write 0 0x1000 ∷ []) ≡ Some (Far 0x1000)
unfolding is_taken is_far moved_addr
beside_one_that_goes = refl

-- The place of `0x1080 72 0x1000` has bytes near 0x1078 in two regions: 0x1000 comes from 0x1080,
-- which is near, and the last one, 0x1047, from 0x10c7, which isn't.
by_the_last_byte : first_fault 6 (move 0x1080 72 0x1000 ∷ []) (write 0 0x1078 ∷ [])
    ≡ Some (Far 0x1078)
unfolding is_taken is_far moved_addr
by_the_last_byte = refl

one_word_less : first_fault 6 (move 0x1080 64 0x1000 ∷ []) (write 0 0x1078 ∷ []) ≡ None
unfolding is_taken is_far moved_addr
one_word_less = refl

-- an access in the way is that, though it is far too
occupied_first : first_fault 6 (move 0x1100 4 0x1000 ∷ []) (write 0 0x1000 ∷ [])
    ≡ Some (Occupied 0x1000)
unfolding is_taken is_far
occupied_first = refl

-- the moved list has regions of at most 256 bytes
large_regions : narrowed (record { first = 0; harts = 8; near = 12 })
    ≡ record { first = 0; harts = 8; near = 8 }
large_regions = refl

small_regions : narrowed (record { first = 0; harts = 8; near = 6 })
    ≡ record { first = 0; harts = 8; near = 6 }
small_regions = refl
