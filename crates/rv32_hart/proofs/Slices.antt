-- The bytes of a range of mapped pages.
use Rattle.std.proofs.Common.{◌≡◌, ℕ, zero, suc, ◌+◌, ◌-◌, ◌*◌, ◌/◌, ◌<◌, ◌≤◌, true, false, List}
use Rattle.std.proofs.Common.{length, take, drop, get_or, refl, arith}
use Rattle.std.proofs.Common.{inl, inr, nat_le}
use Rattle.std.proofs.lemmas.Bool.{le-ltb, leb-true, leb-false, cases_Bool}
use Rattle.std.proofs.Math.Seq.{drop-cons}
use Rattle.rv32_hart.specs.declared.page.Page.{Page}
use Rattle.rv32_hart.specs.Space.{Space, IsSpace, AllMapped, SomeUnmapped, bytes_at, no_page}
use Rattle.rv32_hart.proofs.Within.{listed}

abbrev pub PagesMapped : List Page → ℕ → ℕ → Type 0
PagesMapped pages first end = (k : ℕ) → first ≤ k → k < end → (get_or pages k no_page).mapped ≡ true

quotients : (x y : ℕ) → x ≤ y → x / 4096 ≤ y / 4096
quotients x y h = omega arith

pub within : (m : Space) (i n : ℕ) → IsSpace m → 0 < n → PagesMapped m.pages (i / 4096)
    ((i + (n - 1)) / 4096 + 1) → i + n ≤ length m.bytes
within m i n k some mapped =
    let last : (i + (n - 1)) / 4096 < length m.pages = listed m.pages _
    (mapped ((i + (n - 1)) / 4096) (quotients i (i + (n - 1)) (omega arith)) (omega arith)) in
    omega (arith, k.whole)

pub all_mapped : (m : Space) (a n : ℕ) → m.base ≤ a → PagesMapped m.pages ((a - m.base) / 4096)
    ((a - m.base + (n - 1)) / 4096 + 1)
    → AllMapped m a n
all_mapped m a n above mapped b from before =
    let here : m.base ≤ b = omega arith in
    let low : (a - m.base) / 4096 ≤ (b - m.base) / 4096 = quotients _ _ (omega arith) in
    let high : (b - m.base) / 4096 ≤ (a - m.base + (n - 1)) / 4096 = quotients _ _ (omega arith) in
    rw (le-ltb b m.base here) (mapped ((b - m.base) / 4096) low (omega arith))

pub some_unmapped : (m : Space) (a n k : ℕ) → m.base ≤ a → 0 < n → (a - m.base) / 4096 ≤ k
    → k < (a - m.base + (n - 1)) / 4096 + 1
    → (get_or m.pages k no_page).mapped ≡ false → SomeUnmapped m a n
some_unmapped m a n k above some low high unmapped =
    elim (cases_Bool (nat_le (4096 * k) (a - m.base))) [
      | inl within_page ↦
          let same : (a - m.base) / 4096
          ≡ k = omega (arith, leb-true (4096 * k) (a - m.base) within_page) in
          (a, omega arith, omega arith, rw (le-ltb a m.base above, same) unmapped)
      | inr past ↦
          let later : a - m.base < 4096 * k = leb-false (4096 * k) (a - m.base) past in
          let same : (m.base + 4096 * k - m.base) / 4096 ≡ k = omega arith in (
            m.base + 4096 * k,
            omega arith,
            omega arith,
            rw (le-ltb (m.base + 4096 * k) m.base (omega arith), same) unmapped,
          )
    ]

pub bytes_at_place : (m : Space) (a n : ℕ) → m.base ≤ a → a - m.base + n ≤ length m.bytes
    → bytes_at m a n ≡ take n (drop (a - m.base) m.bytes)
bytes_at_place m a zero above fits = refl
bytes_at_place m a (suc n) above fits =
    let next : suc (a - m.base) ≡ a + 1 - m.base = omega arith in
    let rest : bytes_at m (a + 1) n ≡ take n (drop (a + 1 - m.base) m.bytes) = bytes_at_place m
    (a + 1) n (omega arith) (omega arith) in
    rw (le-ltb a m.base above, rest, drop-cons m.bytes (a - m.base) 0 (omega arith), next) refl
