-- A mapped and aligned access lies in the memory, and a store keeps what every memory keeps.
use Rattle.std.proofs.Common.{◌≡◌, ℕ, zero, suc, ◌+◌, ◌-◌, ◌*◌, ◌/◌, ◌%◌, ◌<◌, ◌≤◌, ◌∙◌, Bool, true}
use Rattle.std.proofs.Common.{false, cond, List, [], ◌∷◌, length}
use Rattle.std.proofs.Common.{◌^◌, get_or, refl, ap, sym, subst, arith, inl, inr, nat_lt}
use Rattle.std.proofs.lemmas.Bool.{cases_lt, le-ltb, lt-ltb, ltb-false}
use Rattle.std.proofs.lemmas.List.{get_or_past}
use Rattle.rv32_hart.specs.declared.page.Page.{Page}
use Rattle.rv32_hart.specs.Bytes.{IsSize}
use Rattle.rv32_hart.specs.Space.{Space, IsSpace, page_at, no_page}

pub listed : (ps : List Page) (i : ℕ) → (get_or ps i no_page).mapped ≡ true → i < length ps
listed [] i h = absurd (cc)
listed (p ∷ ps) zero h = omega arith
listed (p ∷ ps) (suc i) h = omega (arith, listed ps i h)

chosen : (b : Bool) (p : Page) → (cond b no_page p).mapped ≡ true → (b ≡ false) × (p.mapped ≡ true)
chosen true p h = absurd (cc)
chosen false p h = (refl, h)

two_fit : (a b n p : ℕ) → b ≤ a → b % 4096 ≡ 0 → n ≡ 4096 * p → (a - b) / 4096 < p → a % 2 ≡ 0
    → a - b + 2 ≤ n
two_fit a b n p h i j k l = omega arith

four_fit : (a b n p : ℕ) → b ≤ a → b % 4096 ≡ 0 → n ≡ 4096 * p → (a - b) / 4096 < p → a % 4 ≡ 0
    → a - b + 4 ≤ n
four_fit a b n p h i j k l = omega arith

pub inside : (m : Space) (a size : ℕ) → IsSpace m → IsSize size → a % size ≡ 0
    → (page_at m a).mapped ≡ true → (m.base ≤ a)
    × (a - m.base + size ≤ length m.bytes)
inside m a size k s e h =
    let c = chosen (nat_lt a m.base) (get_or m.pages ((a - m.base) / 4096) no_page) h in
    let above : m.base ≤ a = ltb-false _ _ c.0 in
    let below : (a - m.base) / 4096 < length m.pages = listed m.pages _ c.1 in
    let F : ℕ → Type 0 = λ n. a - m.base + n ≤ length m.bytes in (
      above,
      elim s [
        | inl one ↦ omega (arith, one)
        | inr more ↦ elim more [
          | inl two ↦ subst F (sym two)
              (two_fit a m.base _ _ above k.aligned k.whole below (ap (λ n. a % n) (sym two) ∙ e))
          | inr four ↦ subst F (sym four)
              (four_fit a m.base _ _ above k.aligned k.whole below (ap (λ n. a % n) (sym four) ∙ e))
        ]
      ],
    )

below_base : (a b n p : ℕ) → a < b → n ≡ 4096 * p → b + n ≤ 0xfffff000
    → p ≤ (a + (2 ^ 32 - b)) % 2 ^ 32 / 4096
below_base a b n p h i j = omega arith

at_base : (a b : ℕ) → b ≤ a → a < 2 ^ 32 → (a + (2 ^ 32 - b)) % 2 ^ 32 ≡ a - b
at_base a b h i = omega arith

-- an address's page, by its distance from the base, which wraps
pub page_by_place : (m : Space) (a : ℕ) → IsSpace m → a < 2 ^ 32
    → get_or m.pages ((a + (2 ^ 32 - m.base)) % 2 ^ 32 / 4096) no_page ≡ page_at m a
page_by_place m a k fits =
    elim (cases_lt a m.base) [
      | inl below ↦ rw (lt-ltb a m.base below)
          (get_or_past m.pages _ no_page (below_base a m.base _ _ below k.whole k.room))
      | inr above ↦ rw (le-ltb a m.base above)
          (ap (λ d. get_or m.pages (d / 4096) no_page) (at_base a m.base above fits))
    ]
