-- Parts of bytes, and the numbers that they state.
use Rattle.std.proofs.Common.{◌≡◌, ℕ, suc, ◌+◌, ◌^◌, ◌≤◌, ◌<◌, inl, inr, List, [], ◌∷◌, ◌++◌}
use Rattle.std.proofs.Common.{length, get_or, take, drop, All, refl, sym, ap, ◌∙◌, arith}
use Rattle.std.specs.Int.{w16, w32, w64, to_le_bytes}
use Rattle.std.proofs.lemmas.Bool.{cases_lt}
use Rattle.std.proofs.lemmas.List.{take_all, take-append-drop, drop-drop, get_or-take, get_or-drop}
use Rattle.std.proofs.lemmas.List.{get_or_past, length-take, length-drop}
use Rattle.std.proofs.lemmas.List.Elements.{All-cons, All-get_or, All-nil}
use Rattle.std.proofs.lemmas.Nat.{le_bytes_2, le_bytes_4, le_bytes_8}
use Rattle.base.specs.Fields.{number_at}

abbrev pub IsBytes : List ℕ → Type 0
IsBytes bytes = (i : ℕ) → get_or bytes i 0 < 256

pub bytes_of : (bytes : List ℕ) → All (λ b. b < 256) bytes → IsBytes bytes
bytes_of bytes each i =
    elim (cases_lt i (length bytes)) [
      | inl lt ↦ All-get_or (λ b. b < 256) bytes i 0 lt each
      | inr past ↦ rw (get_or_past bytes i 0 past) (omega arith)
    ]

pub bytes_all : (bytes : List ℕ) → IsBytes bytes → All (λ b. b < 256) bytes
bytes_all [] is = All-nil (λ b. b < 256)
bytes_all (b ∷ bytes) is =
    All-cons (λ b. b < 256) b bytes (is 0) (bytes_all bytes (λ i. is (suc i)))

pub IsBytes-drop : (n : ℕ) (bytes : List ℕ) → IsBytes bytes → IsBytes (drop n bytes)
IsBytes-drop n bytes h i = rw get_or-drop (h (n + i))

pub IsBytes-take : (n : ℕ) (bytes : List ℕ) → IsBytes bytes → IsBytes (take n bytes)
IsBytes-take n bytes h i =
    elim (cases_lt i n) [
      | inl lt ↦ rw (get_or-take n bytes i 0 lt) (h i)
      | inr past ↦
          rw (get_or_past (take n bytes) i 0 (omega (arith, length-take n bytes))) (omega arith)
    ]

-- a part of the bytes
pub part : List ℕ → ℕ → ℕ → List ℕ
part bytes place n = take n (drop place bytes)

module _ (bytes : List ℕ) (place : ℕ) (is : IsBytes bytes) where
  part_fits : (n : ℕ) → IsBytes (part bytes place n)
  unfolding part
  part_fits n = IsBytes-take n (drop place bytes) (IsBytes-drop place bytes is)

  length-part : (n : ℕ) → place + n ≤ length bytes → length (part bytes place n) ≡ n
  unfolding part
  length-part n le = omega (arith, length-take n (drop place bytes), length-drop place bytes)

  pub spelled_16 : place + 2 ≤ length bytes
      → to_le_bytes w16 (number_at w16 place bytes) ≡ part bytes place 2
  unfolding part
  spelled_16 le =
      le_bytes_2 (part bytes place 2) _ (length-part 2 le) (part_fits 2) refl

  pub spelled_32 : place + 4 ≤ length bytes
      → to_le_bytes w32 (number_at w32 place bytes) ≡ part bytes place 4
  unfolding part
  spelled_32 le =
      le_bytes_4 (part bytes place 4) _ (length-part 4 le) (part_fits 4) refl

  pub spelled_64 : place + 8 ≤ length bytes
      → to_le_bytes w64 (number_at w64 place bytes) ≡ part bytes place 8
  unfolding part
  spelled_64 le =
      le_bytes_8 (part bytes place 8) _ (length-part 8 le) (part_fits 8) refl

  pub below_32 : number_at w32 place bytes < 2 ^ 32
  unfolding part
  below_32 = let f = part_fits 4 in omega (arith, f 0, f 1, f 2, f 3)

  pub below_64 : number_at w64 place bytes < 2 ^ 64
  unfolding part
  below_64 = let f = part_fits 8 in omega (arith, f 0, f 1, f 2, f 3, f 4, f 5, f 6, f 7)

-- the bytes from a place on are a part and the bytes from its end on
pub from_part : (bytes : List ℕ) (place n after : ℕ) → place + n ≡ after
    → drop place bytes ≡ part bytes place n ++ drop after bytes
unfolding part
from_part bytes place n after e = sym (take-append-drop n (drop place bytes))
    ∙ ap (λ (xs : List ℕ). take n (drop place bytes) ++ xs) (drop-drop n place bytes
    ∙ ap (λ (k : ℕ). drop k bytes) e)

-- or, if it is the last part, that part
pub last_part : (bytes : List ℕ) (place n : ℕ) → length bytes ≤ place + n
    → drop place bytes ≡ part bytes place n
unfolding part
last_part bytes place n le =
    sym (take_all n (drop place bytes) (omega (arith, length-drop place bytes)))
