-- Whether a range is mapped, by the result of reading it.
use Rattle.std.proofs.Common.{◌≡◌, ℕ, zero, suc, ◌+◌, ◌<◌, ◌≤◌, Bool, true, false, refl, arith, inl}
use Rattle.std.proofs.Common.{inr}
use Rattle.std.proofs.lemmas.Bool.{cases_lt}
use Rattle.std.specs.Prelude.{◌&&◌}
use Rattle.rv32_hart.specs.Space.{Space, page_at, AllMapped, SomeUnmapped}
use Rattle.guest.specs.GuestCalls.{are_mapped}

pub and_false : (b : Bool) → (b && false) ≡ false
and_false true = refl
and_false false = refl

pub all_mapped : (m : Space) (at len : ℕ) → AllMapped m at len → are_mapped m at len ≡ true
all_mapped m at zero all = refl
all_mapped m at (suc n) all = rw (all at (omega arith) (omega arith))
    (all_mapped m (at + 1) n (λ a low high. all a (omega arith) (omega arith)))

unmapped-at : (m : Space) (at len a : ℕ) → at ≤ a → a < at + len → (page_at m a).mapped ≡ false
    → are_mapped m at len ≡ false
unmapped-at m at zero a low high off = absurd (omega arith)
unmapped-at m at (suc n) a low high off =
    elim (cases_lt at a) [
      | inl later ↦ rw (unmapped-at m (at + 1) n a (omega arith) (omega arith) off)
          (and_false (page_at m at).mapped)
      | inr same ↦ let e : at ≡ a = omega arith in rw e (rw off refl)
    ]

pub some_unmapped : (m : Space) (at len : ℕ) → SomeUnmapped m at len → are_mapped m at len ≡ false
some_unmapped m at len some = unmapped-at m at len some.0 some.1 some.2 some.3
