-- What `byteorder` reads is the number at a place.
use Rattle.std.proofs.Common.{◌≡◌, ℕ, ◌∙◌, List, drop, sym, arith}
use Rattle.std.specs.Int.{w16, w32, w64}
use Rattle.byteorder.specs.Endian.{little_number}
use Rattle.byteorder.specs.Numbers.{little_from-take}
use Rattle.base.specs.Fields.{number_at}

module _ (place : ℕ) (bytes : List ℕ) where
  pub number_of_2 : little_number 2 (drop place bytes) ≡ number_at w16 place bytes
  number_of_2 =
      sym (little_from-take 0 2 2 (drop place bytes) (omega arith)) ∙ omega arith

  pub number_of_4 : little_number 4 (drop place bytes) ≡ number_at w32 place bytes
  number_of_4 = sym (little_from-take 0 4 4 (drop place bytes) (omega arith)) ∙ omega arith

  pub number_of_8 : little_number 8 (drop place bytes) ≡ number_at w64 place bytes
  number_of_8 = sym (little_from-take 0 8 8 (drop place bytes) (omega arith)) ∙ omega arith
