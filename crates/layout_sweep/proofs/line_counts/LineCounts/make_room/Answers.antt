-- A write has the page of its line, and all windows stay as they were.
use Rattle.std.proofs.Common.{◌≡◌, ℕ, ◌/◌, ◌≤◌, ◌∙◌, IsTrue, ap, arith, sym}
use Rattle.std.proofs.lemmas.Result.{on_err_weaker, on_ok_weaker}
use Rattle.base.specs.Lines.{line_number}
use Rattle.base.specs.Touch.{is_write}
use Rattle.layout_sweep.specs.Laws.Standing.{line-begins}
use Rattle.layout_sweep.specs.Pages.{has_window, window_at}
use Rattle.layout_sweep.proofs.line_counts.LineCounts.make_room.Goals as goal

pub returns-then-is_write-clause-room : goal.returns-then-is_write-clause-room
returns-then-is_write-clause-room c =
    let line : c.number_of-line.result ≡ line_number c.args.self.now.size 0 c.args.access.addr =
    c.number_of-line.ensures ∙ ap (line_number c.args.self.now.size 0) c.addr.ensures in
    on_ok_weaker c.make_page.result
    (λ (made : (q : ℕ) → q / 4096 ≡ c.number_of-line.result / 4096 → q ≤ c.number_of-line.result
    → IsTrue (has_window c.make_page.new.pages.items q)). λ writes.
    made _ (ap (λ (k : ℕ). k / 4096) (sym line)) (omega (arith, line)))
    c.make_page.ensures.made

pub returns-then-is_write-clause-same : goal.returns-then-is_write-clause-same
returns-then-is_write-clause-same c = λ t was. record {
  windows = λ k. c.make_page.ensures.same k ∙ was.windows k;
  total = was.total;
}

pub returns-then-is_write-clause-known : goal.returns-then-is_write-clause-known
returns-then-is_write-clause-known c = λ t stood.
    let s = c.args.self.now in
    let k : ℕ = c.number_of-line.result in
    on_err_weaker c.make_page.result
    (line-begins s.size k t c.args.access (window_at s.pages.items k)
    (c.number_of-line.ensures ∙ ap (line_number s.size 0) c.addr.ensures) (stood.windows k)
    (ap is_write (sym c.kind.ensures) ∙ sym c.is_write.ensures ∙ c.if-is_write.true))
    c.make_page.ensures.blank
