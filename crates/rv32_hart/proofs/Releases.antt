-- The reservations after a write, hart by hart.
use Rattle.std.proofs.Common.{◌≡◌, ℕ, zero, suc, ◌<◌, ◌∙◌, Bool, true, false, cond, List, [], ◌∷◌}
use Rattle.std.proofs.Common.{length, map, get_or, refl, sym, arith}
use Rattle.std.proofs.Common.{inl, inr, nat_eq, Option, None, Some, get_or-set_same}
use Rattle.std.proofs.Common.{get_or-set_other, is_some, sum_by}
use Rattle.std.proofs.lemmas.Bool.{eqb-true, eqb-false, cases_Bool}
use Rattle.std.proofs.lemmas.List.{length-set, length-map, ext_get_or, get_or-map}
use Rattle.std.proofs.lemmas.List.Sums.{sum_by-cons}
use Rattle.rv32_hart.specs.Reserved.{count_held, released, without}

-- what one hart has reserved after another's write
abbrev pub released_at : ℕ → ℕ → ℕ → Option ℕ → Option ℕ
released_at writer word hart held = cond (nat_eq hart writer) held (without word held)

released_one : (writer word : ℕ) (held : List (Option ℕ)) → writer < length held → (k : ℕ)
    → k < length held
    → get_or (released writer word held) k None ≡ released_at writer word k (get_or held k None)
released_one writer word held within k below =
    elim (cases_Bool (nat_eq k writer)) [
      | inl same ↦
          let here : k ≡ writer = eqb-true k writer same in
          rw (same, here) (get_or-set_same (map (without word) held) writer
          (get_or held writer None) None
          (omega (arith, length-map held (without word))))
      | inr other ↦
          rw other (
          get_or-set_other (map (without word) held) writer k (get_or held writer None) None
          (eqb-false k writer other)
          ∙ get_or-map (without word) held k None None below
          )
    ]

-- a list is the released one where each hart has what it has there
pub released_by_hart : (writer word : ℕ) (held new : List (Option ℕ)) → writer < length held
    → length new ≡ length held
    → ((k : ℕ) → k < length held → get_or new k None ≡ released_at writer word k
    (get_or held k None)) → new ≡ released writer word held
released_by_hart writer word held new within same each =
    let lengths : length (released writer word held) ≡ length held =
    length-set (map (without word) held) writer (get_or held writer None)
    ∙ length-map held (without word) in
    ext_get_or None new (released writer word held) (omega arith) (λ k below.
    let here : k < length held = omega arith in
    each k here ∙ sym (released_one writer word held within k here))

none_at : (held : List (Option ℕ)) → sum_by (λ x. cond (is_some x) 1 0) held ≡ 0 → (k : ℕ)
    → get_or held k None ≡ None
none_at [] h k = refl
none_at (None ∷ held) h zero = refl
none_at (None ∷ held) h (suc k) = none_at held h k
none_at (Some w ∷ held) h k =
    absurd (omega (arith, h, sum_by-cons (λ (x : Option ℕ). cond (is_some x) 1 0) (Some w) held))

kept : (b : Bool) (held : Option ℕ) → held ≡ cond b held held
kept true held = refl
kept false held = refl

-- where no hart has reserved a word, no reservation ends
pub released_none : (writer word : ℕ) (held : List (Option ℕ)) → writer < length held
    → count_held held ≡ 0
    → held ≡ released writer word held
released_none writer word held within none =
    released_by_hart writer word held held within refl
    (λ k below. rw (none_at held none k) (kept (nat_eq k writer) None))
