-- The window of the access's line is what the list with the access makes of it, and so is the total.
use Rattle.std.proofs.Common.{◌≡◌, ℕ, ◌∙◌, ap, subst}
use Rattle.base.specs.Lines.{line_number}
use Rattle.layout_sweep.specs.Pages.{window_at}
use Rattle.layout_sweep.specs.Windows.{takes, window_after}
use Rattle.layout_sweep.specs.declared.window.Window.{Window}
use Rattle.layout_sweep.proofs.LineLaws.{lines-noted, total-noted}
use Rattle.layout_sweep.proofs.line_counts.LineCounts.note.Goals as goal

pub returns-clause-taken : goal.returns-clause-taken
returns-clause-taken c = λ t was.
    let s = c.args.self.now in
    c.note_window-taken.ensures.taken
    ∙ ap (λ (k : ℕ). takes (window_at s.pages.items k) c.args.access)
    (c.number_of-line.ensures ∙ ap (line_number s.size 0) c.addr.ensures)
    ∙ ap (λ (w : Window). takes w c.args.access) (was.windows (line_number s.size 0 c.args.access.addr))

pub returns-clause-counts : goal.returns-clause-counts
returns-clause-counts c = λ t was.
    let s = c.args.self.now in
    let a = c.args.access in
    let x : ℕ = line_number s.size 0 a.addr in
    let line : c.number_of-line.result ≡ x =
    c.number_of-line.ensures ∙ ap (line_number s.size 0) c.addr.ensures in
    let new = window_at c.note_window-taken.new.pages.items in
    let old = window_at s.pages.items in
    record {
      windows = lines-noted s.size t a old new s.some s.whole was.windows
          (subst (λ (k : ℕ). new k ≡ window_after (old k) a) line c.note_window-taken.ensures.here)
          (subst (λ (j : ℕ). (k : ℕ) → (k ≡ j → ⊥) → new k ≡ old k) line
          c.note_window-taken.ensures.others);
      total = c.count.ensures.value
          ∙ total-noted s.size s.total t a c.note_window-taken.result s.some s.whole was.total
          (c.note_window-taken.ensures.taken
          ∙ ap (λ (k : ℕ). takes (old k) a) line
          ∙ ap (λ (w : Window). takes w a) (was.windows x));
    }
