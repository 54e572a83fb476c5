-- What an access makes of the lines of one layout and of their total.
use Rattle.std.proofs.Common.{◌≡◌, ℕ, ◌+◌, ◌%◌, ◌<◌, Bool, List, [], ◌∷◌, ◌++◌, sym, ap, ◌∙◌, subst}
use Rattle.std.proofs.Common.{arith, false, inl, inr, refl, true}
use Rattle.std.proofs.lemmas.Bool.{cases_eq, eq-eqb, ne_eqb}
use Rattle.std.specs.Prelude.{if◌then◌else◌}
use Rattle.base.specs.Lines.{line_number}
use Rattle.base.specs.Touch.{Touch}
use Rattle.sharing_rules.specs.Lines.{native_grid, native_line}
use Rattle.layout_sweep.specs.Laws.Totals.{total-push}
use Rattle.layout_sweep.specs.Laws.Windows.{window-noted, window-stays}
use Rattle.layout_sweep.specs.Totals.{total_of}
use Rattle.layout_sweep.specs.Windows.{takes, window_after, window_of}
use Rattle.layout_sweep.specs.declared.window.Window.{Window}

-- the window of the access's line is noted, and the others stay
pub lines-noted : (n : ℕ) (t : List Touch) (a : Touch) (old new : ℕ → Window) → 0 < n
    → n % 4 ≡ 0 → ((k : ℕ) → old k ≡ window_of (native_line n k) t)
    → new (line_number n 0 a.addr) ≡ window_after (old (line_number n 0 a.addr)) a
    → ((k : ℕ) → (k ≡ line_number n 0 a.addr → ⊥) → new k ≡ old k)
    → (k : ℕ) → new k ≡ window_of (native_line n k) (t ++ a ∷ [])
lines-noted n t a old new some whole stands here others k =
    let x : ℕ = line_number n 0 a.addr in
    elim (cases_eq k x) [
      | inl same ↦
          subst (λ (j : ℕ). new j ≡ window_of (native_line n j) (t ++ a ∷ [])) (sym same)
          (here ∙ ap (λ (w : Window). window_after w a) (stands x)
          ∙ sym (window-noted (native_line n x) t a (record { some = some; whole = whole })
          (eq-eqb x x refl)).window)
      | inr other ↦ others k other ∙ stands k
          ∙ sym (window-stays (native_line n k) t a (ne_eqb x k (λ is. other (sym is))))
    ]

-- what the window of an address's line takes is counted
pub total-noted : (n total : ℕ) (t : List Touch) (a : Touch) (taken : Bool) → 0 < n → n % 4 ≡ 0
    → total ≡ total_of (native_grid n) t
    → taken ≡ takes (window_of (native_line n (line_number n 0 a.addr)) t) a
    → (if taken then total + 1 else total) ≡ total_of (native_grid n) (t ++ a ∷ [])
total-noted n total t a taken some whole was is =
    counted taken ∙ ap (λ (s : ℕ). s + (if taken then 1 else 0)) was
    ∙ ap (λ (b : Bool). total_of (native_grid n) t + (if b then 1 else 0)) is
    ∙ sym (total-push (native_grid n) t a (some, whole))
  where
    counted : (b : Bool) → (if b then total + 1 else total) ≡ total + (if b then 1 else 0)
    counted true = refl
    counted false = omega arith
