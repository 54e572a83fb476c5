-- Pages given rights, seen at each address.
use Rattle.std.proofs.Common.{◌≡◌, ℕ, ◌+◌, ◌-◌, ◌*◌, ◌/◌, ◌%◌, ◌<◌, ◌≤◌, ◌&&◌, ◌∙◌, Bool, true}
use Rattle.std.proofs.Common.{false, cond, List, length, get_or, refl, ap, sym, arith}
use Rattle.std.proofs.Common.{nat_le, nat_lt, inl, inr}
use Rattle.std.proofs.lemmas.Bool.{cases_Bool, ltb-true, ltb-false}
use Rattle.std.proofs.lemmas.Bool.Decides.{nat_tests}
use Rattle.rv32_hart.specs.declared.page.Page.{Page}
use Rattle.rv32_hart.specs.Space.{Space, IsSpace, IsRange, no_page}
use Rattle.rv32_hart.specs.Changes.{Maps, granted, touches}
use Rattle.rv32_hart.proofs.Rights.{granted_rights}

-- the pages from first on and before end gain rights
abbrev pub AreGranted : List Page → List Page → ℕ → ℕ → Bool → Bool → Type 0
AreGranted old new first end w x =
    (k : ℕ) → get_or new k no_page ≡ cond (nat_le first k && nat_lt k end)
    (granted w x (get_or old k no_page)) (get_or old k no_page)

untouched : (base at len a : ℕ) → base % 4096 ≡ 0 → base ≤ at → a < base → touches at len a ≡ false
untouched base at len a aligned above below =
    let low : nat_le (at / 4096) (a / 4096) ≡ false = grind (arith, nat_tests) in
    elim (cases_Bool (nat_lt 0 len)) [ inl some ↦ rw (some, low) refl | inr none ↦ rw none refl ]

touched : (base at len a : ℕ) → base % 4096 ≡ 0 → base ≤ at → 0 < len → base ≤ a
    → touches at len a ≡ (nat_le ((at - base) / 4096) ((a - base) / 4096) && nat_lt
    ((a - base) / 4096) ((at - base + (len - 1)) / 4096 + 1))
touched base at len a aligned above some from =
    let p : at / 4096 ≡ base / 4096 + (at - base) / 4096 = omega arith in
    let q : a / 4096 ≡ base / 4096 + (a - base) / 4096 = omega arith in
    let r : (at + len - 1) / 4096 ≡ base / 4096 + (at - base + (len - 1)) / 4096 = omega arith in
    let positive : nat_lt 0 len ≡ true = grind (arith, nat_tests) in
    let low : nat_le (at / 4096) (a / 4096) ≡ nat_le ((at - base) / 4096) ((a - base) / 4096) =
    rw (p, q) (grind (arith, nat_tests)) in
    let high : nat_le (a / 4096) ((at + len - 1) / 4096) ≡ nat_lt ((a - base) / 4096)
    ((at - base + (len - 1)) / 4096 + 1) =
    rw (q, r) (grind (arith, nat_tests)) in
    rw (positive, low, high) refl

pub maps : (m : Space) (at len : ℕ) (w x : Bool) (pages new : List Page) → IsSpace m
    → IsRange m at len → 0 < len → pages ≡ new
    → AreGranted m.pages new ((at - m.base) / 4096) ((at - m.base + (len - 1)) / 4096 + 1) w x
    → Maps m (record m { pages = pages }) at len w x
maps m at len w x pages new space range some same each = record {
  base = refl;
  bytes = refl;
  pages = λ a.
      elim (cases_Bool (nat_lt a m.base)) [
        | inl below ↦ rw (
          below,
          untouched m.base at len a space.aligned range.0
              (ltb-true a m.base below),
        ) refl
        | inr above ↦
            rw (
              above,
              touched m.base at len a space.aligned range.0 some
                  (ltb-false a m.base above),
              same,
            ) (each ((a - m.base) / 4096))
      ];
}

-- as many pages whose rights are right make a memory
pub mapped_space : (m : Space) (first end : ℕ) (w x : Bool) (pages new : List Page) → IsSpace m
    → pages ≡ new → length new ≡ length m.pages
    → AreGranted m.pages new first end w x → IsSpace (record m { pages = pages })
mapped_space m first end w x pages new space same long each = record {
  aligned = space.aligned;
  whole = space.whole ∙ ap (λ n. 4096 * n) (sym long ∙ ap length (sym same));
  room = space.room;
  rights = rw same (granted_rights m.pages new first end w x each space.rights);
}
