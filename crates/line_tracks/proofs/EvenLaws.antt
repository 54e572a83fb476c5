-- The doubled line of an even pair.
use Rattle.std.proofs.Common.{◌≡◌, ℕ, ◌+◌, ◌-◌, ◌*◌, ◌/◌, ◌%◌, true, ◌||◌, sym, ap, ◌⊎◌, ◌∙◌, arith}
use Rattle.std.proofs.Common.{inl, inr}
use Rattle.std.proofs.lemmas.Bool.{or_cases, eqb-true}
use Rattle.base.specs.Ranges.{line_range}
use Rattle.sharing_rules.specs.Lines.{is_inside, line_at, native_line, range_of}
use Rattle.sharing_rules.specs.Predicted.{doubled_line, is_native_size}
use Rattle.sharing_rules.specs.Laws.Bases.{at_native}

same_range : (n o k q : ℕ) → o ≡ 0 → k ≡ q → line_range n 0 q ≡ line_range n o k
same_range n o k q zero same = ap (line_range n 0) (sym same)
    ∙ ap (λ z. line_range n z k) (sym zero)

-- for an address of line k or k + 1: the offset of the doubled line is 0, and its number is that of
-- the address's
abbrev IsDoubled : ℕ → ℕ → ℕ → Type 0
IsDoubled k a n = ((a + n - 0) / n ≡ k) ⊎ ((a + n - 0) / n ≡ k + 1)
    → ((n * (k - 1) + 4 * 0) % (2 * n) ≡ 0) × ((n * (k - 1) + 4 * 0 + 2 * n
    - (n * (k - 1) + 4 * 0) % (2 * n)) / (2 * n) ≡ (a + 2 * n - 0) /
    (2 * n))

at_32 : (k a : ℕ) → k % 2 ≡ 1 → IsDoubled k a 32
at_32 k a odd (inl e) = (omega arith, omega arith)
at_32 k a odd (inr e) = (omega arith, omega arith)

at_64 : (k a : ℕ) → k % 2 ≡ 1 → IsDoubled k a 64
at_64 k a odd (inl e) = (omega arith, omega arith)
at_64 k a odd (inr e) = (omega arith, omega arith)

at_128 : (k a : ℕ) → k % 2 ≡ 1 → IsDoubled k a 128
at_128 k a odd (inl e) = (omega arith, omega arith)
at_128 k a odd (inr e) = (omega arith, omega arith)

at_256 : (k a : ℕ) → k % 2 ≡ 1 → IsDoubled k a 256
at_256 k a odd (inl e) = (omega arith, omega arith)
at_256 k a odd (inr e) = (omega arith, omega arith)

doubled_at : (n k a : ℕ) → is_native_size n ≡ true → k % 2 ≡ 1 → IsDoubled k a n
doubled_at n k a native odd =
    at_native (IsDoubled k a) (at_32 k a odd) (at_64 k a odd) (at_128 k a odd) (at_256 k a odd)
    n native

-- the doubled line of an even pair holds the addresses of both
pub doubled-holds : (n k a : ℕ) → is_native_size n ≡ true → k % 2 ≡ 1
    → (is_inside (native_line n k) a || is_inside (native_line n (k + 1)) a) ≡ true
    → range_of (line_at (record { size = 2 * n; offset = 0 }) a) ≡ range_of (doubled_line n k)
doubled-holds n k a native odd inside =
    let it : IsDoubled k a n = doubled_at n k a native odd in
    let facts = elim (or_cases (is_inside (native_line n k) a)
    (is_inside (native_line n (k + 1)) a) inside)
    as (λ _. ((n * (k - 1) + 4 * 0) % (2 * n) ≡ 0)
    × ((n * (k - 1) + 4 * 0 + 2 * n - (n * (k - 1) + 4 * 0) % (2 * n)) / (2 * n)
    ≡ (a + 2 * n - 0) / (2 * n))) [
      | inl e ↦ it (inl (eqb-true ((a + n - 0) / n) k e))
      | inr e ↦ it (inr (eqb-true ((a + n - 0) / n) (k + 1) e))
    ] in
    same_range (2 * n) ((n * (k - 1) + 4 * 0) % (2 * n))
    ((n * (k - 1) + 4 * 0 + 2 * n - (n * (k - 1) + 4 * 0) % (2 * n)) / (2 * n))
    ((a + 2 * n - 0) / (2 * n)) facts.0 facts.1
