-- The immediates, as the code puts them together.
use Rattle.std.proofs.Common.{◌≡◌, ℕ, ℤ, pos, ◌+◌, ◌*◌, ◌/◌, ◌%◌, ◌^◌, ◌<◌, w32, to_z, of_z, arith}
use Rattle.std.proofs.Common.{bit_and}
use Rattle.std.specs.Int.Signed.{shr_z}
use Rattle.std.specs.Prelude.{◌+ℤ◌, ◌*ℤ◌}
use Rattle.std.proofs.lemmas.Int.{ints}
use Rattle.std.proofs.lemmas.Nat.{and_mask}
use Rattle.rv32_decode.specs.Fields.{imm_b, imm_j, imm_s}

pub store : (w : ℕ) (z : ℤ) → w < 2 ^ 32 → z ≡ to_z w32 w
    → to_z w32 (of_z w32 (to_z w32
    (of_z w32 (to_z w32 (of_z w32 (shr_z (to_z w32 (of_z w32 z)) 33554432)) *ℤ pos 32))
    +ℤ to_z w32 (bit_and (w / 128) 31)))
    ≡ imm_s w
store w z h e =
    let low : bit_and (w / 128) 31 ≡ w / 128 % 32 = and_mask (w / 128) 5 in
    rw (low, e) (grind (arith, ints))

pub branch : (w : ℕ) (z : ℤ) → w < 2 ^ 32 → z ≡ to_z w32 w
    → to_z w32 (of_z w32 (to_z w32
    (of_z w32 (to_z w32 (of_z w32 (shr_z (to_z w32 (of_z w32 z)) 2147483648)) *ℤ pos 4096))
    +ℤ to_z w32 (bit_and (w / 128) 1 * 2048 % 4294967296 + bit_and (w / 33554432)
    63 * 32 % 4294967296
    + bit_and (w / 256) 15 * 2 % 4294967296)))
    ≡ imm_b w
branch w z h e =
    let one : bit_and (w / 128) 1 ≡ w / 128 % 2 = and_mask (w / 128) 1 in
    let two : bit_and (w / 33554432) 63 ≡ w / 33554432 % 64 = and_mask (w / 33554432) 6 in
    let three : bit_and (w / 256) 15 ≡ w / 256 % 16 = and_mask (w / 256) 4 in
    rw (one, two, three, e) (grind (arith, ints))

pub jump : (w : ℕ) (z : ℤ) → w < 2 ^ 32 → z ≡ to_z w32 w
    → to_z w32 (of_z w32 (to_z w32
    (of_z w32 (to_z w32 (of_z w32 (shr_z (to_z w32 (of_z w32 z)) 2147483648)) *ℤ pos 1048576))
    +ℤ to_z w32 (bit_and (w / 4096) 255 * 4096 % 4294967296 + bit_and (w / 1048576)
    1 * 2048 % 4294967296
    + bit_and (w / 2097152) 1023 * 2 % 4294967296)))
    ≡ imm_j w
jump w z h e =
    let one : bit_and (w / 4096) 255 ≡ w / 4096 % 256 = and_mask (w / 4096) 8 in
    let two : bit_and (w / 1048576) 1 ≡ w / 1048576 % 2 = and_mask (w / 1048576) 1 in
    let three : bit_and (w / 2097152) 1023 ≡ w / 2097152 % 1024 = and_mask (w / 2097152) 10 in
    rw (one, two, three, e) (grind (arith, ints))
