-- The room that a file without a fault has in memory.
use Rattle.std.proofs.Common.{◌≡◌, ℕ, zero, suc, ◌+◌, ◌-◌, ◌*◌, ◌%◌, ◌<◌, ◌≤◌, List, [], ◌∷◌, false}
use Rattle.std.proofs.Common.{not, ◌&&◌, ◌||◌, nat_lt, None, length}
use Rattle.std.proofs.Common.{arith}
use Rattle.std.proofs.lemmas.Bool.Decides.{nat_tests}
use Rattle.std.specs.List.{list_any}
use Rattle.program_files.specs.Fields.{entry_of}
use Rattle.program_files.specs.Programs.{Loaded, segments_of}
use Rattle.program_files.specs.Faults.{first_fault}
use Rattle.program_files.specs.Images.{least, greatest_end, base_of, heap_start_of, runs_at}
use Rattle.program_files.specs.Images.{place_faults}
use Rattle.program_files.proofs.FirstFaults.{no_fault}

high_enough : (n top heap stacks : ℕ) → 0 < n
    → (nat_lt 0 n && (nat_lt 0xfffff000 top || nat_lt top (heap + stacks))) ≡ false
    → top ≤ 0xfffff000
high_enough n top heap stacks some h = grind (arith, nat_tests)

wide_enough : (n top heap stacks : ℕ) → 0 < n
    → (nat_lt 0 n && (nat_lt 0xfffff000 top || nat_lt top (heap + stacks))) ≡ false
    → heap + stacks ≤ top
wide_enough n top heap stacks some h = grind (arith, nat_tests)

some_segment : (a : ℕ) (segments : List Loaded) → not (list_any (runs_at a) segments) ≡ false
    → 0 < length segments
some_segment a [] h = absurd (cc)
some_segment a (s ∷ others) h = omega arith

some_extent : (segments : List Loaded) → 0 < length segments
    → least segments ≤ greatest_end segments
some_extent [] h = absurd (omega arith)
some_extent (s ∷ others) h = omega arith

is_some_there : (memory stacks : ℕ) (file : List ℕ) → first_fault (place_faults memory stacks) file
    ≡ None → 0 < length (segments_of file)
is_some_there memory stacks file h =
    let all = no_fault (place_faults memory stacks) file h in
    some_segment (entry_of file) (segments_of file) all.1.1.0

pub top_low : (memory stacks : ℕ) (file : List ℕ) → first_fault (place_faults memory stacks) file
    ≡ None
    → base_of (segments_of file) + memory ≤ 0xfffff000
top_low memory stacks file h =
    let all = no_fault (place_faults memory stacks) file h in
    high_enough (length (segments_of file)) (base_of (segments_of file) + memory)
    (heap_start_of (segments_of file)) stacks
    (is_some_there memory stacks file h) all.0

pub has_room : (memory stacks : ℕ) (file : List ℕ) → first_fault (place_faults memory stacks) file
    ≡ None
    → heap_start_of (segments_of file) + stacks ≤ base_of (segments_of file) + memory
has_room memory stacks file h =
    let all = no_fault (place_faults memory stacks) file h in
    wide_enough (length (segments_of file)) (base_of (segments_of file) + memory)
    (heap_start_of (segments_of file)) stacks
    (is_some_there memory stacks file h) all.0

pub heap_behind : (memory stacks : ℕ) (file : List ℕ) → first_fault (place_faults memory stacks)
    file ≡ None
    → base_of (segments_of file) ≤ heap_start_of (segments_of file)
heap_behind memory stacks file h =
    let extent = some_extent (segments_of file) (is_some_there memory stacks file h) in
    omega arith

pub ruleset rooms = (top_low, has_room, heap_behind)

whole_stacks : (n stack : ℕ) → stack % 4096 ≡ 0 → n * stack % 4096 ≡ 0
whole_stacks zero stack h = omega arith
whole_stacks (suc n) stack h = let rest = whole_stacks n stack h in omega arith

-- the stacks begin at a whole page
pub whole_below : (base size n stack : ℕ) → base % 4096 ≡ 0 → size % 4096 ≡ 0 → stack % 4096 ≡ 0
    → (base + size - n * stack) % 16 ≡ 0
whole_below base size n stack b s h = let stacks = whole_stacks n stack h in omega arith
