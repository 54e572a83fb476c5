-- What the table's masks leave of a word, by its fields.
use Rattle.std.proofs.Common.{◌≡◌, ℕ, ◌+◌, ◌*◌, ◌/◌, ◌%◌, ◌^◌, ◌<◌, refl, sym, ◌∙◌, arith, bit_and}
use Rattle.std.proofs.lemmas.Nat.{and_shr, and_mod, and_mask, div-add-mod'}
use Rattle.std.proofs.lemmas.Nat.Bits.{and_high}
use Rattle.rv32_decode.specs.Fields.{opcode, funct3, rs2, funct5, funct7}

-- a mask, cut in two
and_cut : (k n m : ℕ) → bit_and n m ≡ bit_and (n / 2 ^ k) (m / 2 ^ k) * 2 ^ k + bit_and (n % 2 ^ k)
    (m % 2 ^ k)
and_cut k n m = sym (div-add-mod' (bit_and n m) (2 ^ k)) ∙ rw (and_shr n m k, and_mod n m k) refl

pub and_opcode : (w : ℕ) → bit_and w 0x7f ≡ opcode w
and_opcode w = omega (arith, and_mask w 7)

pub and_funct3 : (w : ℕ) → bit_and w 0x707f ≡ opcode w + funct3 w * 2 ^ 12
and_funct3 w = omega (arith, and_cut 7 w 0x707f, and_high (w / 128) 3 5, and_mask (w % 128) 7)

pub and_funct7 : (w : ℕ) → bit_and w 0xfe00707f ≡ opcode w + funct3 w * 2 ^ 12 + funct7 w * 2 ^ 25
and_funct7 w = omega (
  arith,
  and_cut 25 w 0xfe00707f,
  and_mask (w / 33554432) 7,
  and_funct3 (w % 33554432),
)

pub and_funct5 : (w : ℕ) → bit_and w 0xf800707f ≡ opcode w + funct3 w * 2 ^ 12 + funct5 w * 2 ^ 27
and_funct5 w = omega (
  arith,
  and_cut 27 w 0xf800707f,
  and_mask (w / 134217728) 5,
  and_funct3 (w % 134217728),
)

pub and_no_rs2 : (w : ℕ) → bit_and w 0xf9f0707f ≡ opcode w + funct3 w * 2 ^ 12 + rs2 w * 2 ^
    20 + funct5 w * 2 ^ 27
and_no_rs2 w = omega (
  arith,
  and_cut 27 w 0xf9f0707f,
  and_mask (w / 134217728) 5,
  and_cut 20 (w % 134217728) 0x1f0707f,
  and_mask (w % 134217728 / 1048576) 5,
  and_funct3 (w % 134217728 % 1048576),
)

pub and_all : (w : ℕ) → w < 2 ^ 32 → bit_and w 0xffffffff ≡ w
and_all w h = omega (arith, and_mask w 32)
