-- Worked examples of the heap, closed by computing the definitions.
use Rattle.std.proofs.Common.{◌≡◌, true, false, [], Some, refl}
use Rattle.guest.specs.Heaps.{Heap, after_alloc, after_free, can_stand, rounded}

-- 24 bytes were made at 0x20000 and freed, and 1 byte was made at 0x20020: 40 bytes fit behind it
-- and nowhere before
heap : Heap
heap =
    let first : Heap = after_alloc (record { start = 0x20000; end = 0x20060; blocks = [] }) 24
    (Some 0x20000) in
    after_free (after_alloc first 1 (Some 0x20020)) 0x20000

stands_behind : can_stand heap 40 0x20030 ≡ true
unfolding heap
stands_behind = refl

meets_the_byte : can_stand heap 40 0x20010 ≡ false
unfolding heap
meets_the_byte = refl

ends_outside : can_stand heap 40 0x20040 ≡ false
unfolding heap
ends_outside = refl

no_multiple : can_stand heap 1 0x20008 ≡ false
unfolding heap
no_multiple = refl

freed_bytes_are_free : can_stand heap 32 0x20000 ≡ true
unfolding heap
freed_bytes_are_free = refl

-- sizes
no_bytes_take_16 : rounded 0 ≡ 16
no_bytes_take_16 = refl

the_greatest_size : rounded 0xFFFFFFFF ≡ 0x100000000
the_greatest_size = refl
