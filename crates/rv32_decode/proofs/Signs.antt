-- Signed numbers and the bits that stand for them.
use Rattle.std.proofs.Common.{◌≡◌, ℕ, ℤ, pos, negsuc, ◌*◌, ◌%◌, ◌<◌, w32, to_z, of_z, ◌∙◌, SFits}
use Rattle.std.proofs.Common.{arith}
use Rattle.std.proofs.lemmas.Int.{ints, to_z-of_z}
use Rattle.rv32_decode.specs.Fields.{signed, low_bits}
use Rattle.rv32_decode.specs.Validity.{IsWithin, IsEvenWithin}

-- a signed number that is passed on is the same number
pub passed_on : (z y : ℤ) → SFits w32 z → z ≡ y → to_z w32 (of_z w32 z) ≡ y
passed_on z y fits e = to_z-of_z w32 z fits ∙ e

pub signed-low_bits : (half : ℕ) (z : ℤ) → IsWithin half z → signed half (low_bits (2 * half) z) ≡ z
signed-low_bits half (pos n) h = grind (arith, ints)
signed-low_bits half (negsuc n) h = grind (arith, ints)

pub low_bits-signed : (half n : ℕ) → n < 2 * half → low_bits (2 * half) (signed half n) ≡ n
low_bits-signed half n h = grind (arith, ints)

pub low_bits-below : (half : ℕ) (z : ℤ) → IsWithin half z → low_bits (2 * half) z < 2 * half
low_bits-below half (pos n) h = grind (arith, ints)
low_bits-below half (negsuc n) h = grind (arith, ints)

pub low_bits-even : (half : ℕ) (z : ℤ) → IsEvenWithin half z → low_bits (2 * half) z % 2 ≡ 0
low_bits-even half (pos n) h = grind (arith, ints, h.within, h.even)
low_bits-even half (negsuc n) h = grind (arith, ints, h.within, h.even)

pub within-signed : (half n : ℕ) → n < 2 * half → IsWithin half (signed half n)
within-signed half n h = record { low = grind (arith, ints); high = grind (arith, ints) }

pub even-signed : (half n : ℕ) → n < 2 * half → n % 2 ≡ 0 → IsEvenWithin half (signed half n)
even-signed half n h e = record { within = within-signed half n h; even = grind (arith, ints) }
