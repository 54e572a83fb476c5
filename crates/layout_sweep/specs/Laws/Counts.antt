-- What one access more makes of what is counted at each shift.
use Rattle.std.proofs.Common.{◌≡◌, ℕ, ◌+◌, ◌*◌, List, []}
use Rattle.std.proofs.Common.{◌∷◌, ◌++◌, refl, ap, ◌∙◌, arith, inl, inr}
use Rattle.std.proofs.Common.{add-zero}
use Rattle.std.proofs.lemmas.Bool.{cases_Bool}
use Rattle.std.specs.Prelude.{if◌then◌else◌}
use Rattle.base.specs.Touch.{Touch}
use Rattle.sharing_rules.specs.Lines.{line_at}
use Rattle.layout_sweep.specs.Counts.{swept_after, swept_of}
use Rattle.layout_sweep.specs.Laws.Lines.{IsWhole}
use Rattle.layout_sweep.specs.Laws.Totals.{IsEven, lines-push, total-push}
use Rattle.layout_sweep.specs.Totals.{counted_lines, total_of}
use Rattle.layout_sweep.specs.Windows.{shifted_grid, takes, window_of}
use Rattle.layout_sweep.specs.declared.window.Window.{Window}

whole-even : (n i : ℕ) → IsWhole n → IsEven (shifted_grid n i)
whole-even n i whole = (omega (arith, whole.some), omega (arith, whole.words))

with_counts : (s total lines : ℕ) (w : Window) (a : Touch)
    → record {
      shift = s;
      total = total + (if takes w a then 1 else 0);
      lines = lines + (if takes w a then (if w.taken then 0 else 1) else 0);
    } ≡ swept_after (record { shift = s; total = total; lines = lines }) w a
with_counts s total lines w a =
    elim (cases_Bool (takes w a)) [
      | inl taken ↦ elim (cases_Bool w.taken) [
        | inl before ↦ rw (taken, before, add-zero) refl
        | inr first ↦ rw (taken, first) refl
      ]
      | inr kept ↦ rw (kept, add-zero, add-zero) refl
    ]

pub swept-push : (n i : ℕ) (t : List Touch) (a : Touch) → IsWhole n
    → swept_of n (t ++ a ∷ []) i ≡ swept_after (swept_of n t i)
    (window_of (line_at (shifted_grid n i) a.addr) t) a
swept-push n i t a whole =
    let g = shifted_grid n i in
    let w = window_of (line_at g a.addr) t in
    let even = whole-even n i whole in
    ap (λ (k : ℕ). record {
      shift = 4 * i;
      total = k;
      lines = counted_lines g (t ++ a ∷ []);
    }) (total-push g t a even)
    ∙ ap (λ (k : ℕ). record {
      shift = 4 * i;
      total = total_of g t + (if takes w a then 1 else 0);
      lines = k;
    }) (lines-push g t a even)
    ∙ with_counts (4 * i) (total_of g t) (counted_lines g t) w a
