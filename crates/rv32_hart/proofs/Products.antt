-- The product of two signed words, in twice the bits.
use Rattle.std.proofs.Common.{arith, ℕ, ℤ, pos, negsuc, ◌≤◌, ◌/◌, ◌^◌, w32, w64, to_z, of_z, ◌*ℤ◌}
use Rattle.std.proofs.Common.{◌≡◌, ◌∙◌, SFits, lit<, unsigned_abs}
use Rattle.std.proofs.Common.{refl}
use Rattle.std.proofs.lemmas.Int.{to_z-of_z, fits_signed_mul}
use Rattle.rv32_hart.specs.Arithmetic.{high}

widened : (z : ℤ) → SFits w32 z → SFits w64 z
widened z f = record { sfits = omega (arith, f.sfits) }

abs_bound : (z : ℤ) → SFits w32 z → unsigned_abs z ≤ 2 ^ 31
abs_bound (pos n) f = omega (arith, f.sfits)
abs_bound (negsuc n) f = omega (arith, f.sfits)

pub product_high : (a b x y : ℤ) (r : ℕ) → SFits w32 a → SFits w32 b → x ≡ to_z w32 (of_z w32 a) → y
    ≡ to_z w32 (of_z w32 b)
    → r ≡ of_z w64 (to_z w64 (of_z w64 (to_z w64 (of_z w64 x) *ℤ to_z w64 (of_z w64 y))))
    → r / 2 ^ 32 ≡ high (a *ℤ b)
product_high a b x y r f g p q h =
    let pa : x ≡ a = p ∙ to_z-of_z w32 a f in
    let qb : y ≡ b = q ∙ to_z-of_z w32 b g in
    let wa = to_z-of_z w64 a (widened a f) in
    let wb = to_z-of_z w64 b (widened b g) in
    let fits : SFits w64 (a *ℤ b) = fits_signed_mul w64 a b (2 ^ 31) (2 ^ 31) (abs_bound a f)
    (abs_bound b g) (lit< tt) in
    let wp = to_z-of_z w64 (a *ℤ b) fits in
    rw (h, pa, qb, wa, wb, wp) refl
