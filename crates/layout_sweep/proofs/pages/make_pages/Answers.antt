-- The windows before the cut lie in the page of the first, and the others in that of the cut.
use Rattle.std.proofs.Common.{◌≡◌, ℕ, ◌-◌, ◌+◌, ◌/◌, ◌%◌, ◌≤◌, ◌∙◌, sym, arith, IsTrue, inl, inr}
use Rattle.std.proofs.lemmas.Bool.{cases_lt}
use Rattle.std.proofs.lemmas.Result.{on_err_weaker, on_ok_weaker}
use Rattle.layout_sweep.specs.Laws.Lines.{cut_is, lower_page, upper_page}
use Rattle.layout_sweep.specs.Pages.{has_window, window_at}
use Rattle.layout_sweep.specs.Windows.{blank_window}
use Rattle.layout_sweep.proofs.pages.make_pages.Goals as goal

pub returns-in-Ok-clause-made : goal.returns-in-Ok-clause-made
returns-in-Ok-clause-made c =
    let w : ℕ = c.args.word in
    let m : ℕ = c.args.words in
    let cut : ℕ = w - w % m + m in
    let is = cut_is m w c.requires.sized in
    on_ok_weaker c.make_page.result
    (λ (made : (q : ℕ) → q / 4096 ≡ (w + m) / 4096 → q ≤ w + m
    → IsTrue (has_window c.make_page.new.pages.items q)). λ q above below.
    elim (cases_lt q cut) [
      | inl low ↦ c.make_page.ensures.keeps q
          (c.in-Ok.ensures.made q
          (lower_page m w cut q is above low
          ∙ sym (lower_page m w cut (cut - 1) is (omega (arith, above, low))
          (omega (arith, above, low)))) above low)
      | inr high ↦ made q
          (upper_page m w cut q is high below
          ∙ sym (upper_page m w cut (w + m) is (omega (arith, is.low)) (omega arith))) below
    ])
    c.make_page.ensures.made

pub returns-in-Ok-clause-blank : goal.returns-in-Ok-clause-blank
returns-in-Ok-clause-blank c =
    let w : ℕ = c.args.word in
    let m : ℕ = c.args.words in
    let is = cut_is m w c.requires.sized in
    on_err_weaker c.make_page.result
    (λ (blank : window_at c.make_lower.new.pages.items (w + m) ≡ blank_window). record {
      number = w + m;
      above = omega (arith, is.some);
      within = omega arith;
      blank = sym (c.in-Ok.ensures.same (w + m)) ∙ blank;
    })
    c.make_page.ensures.blank

pub returns-in-Err-clause-blank : goal.returns-in-Err-clause-blank
returns-in-Err-clause-blank c =
    let w : ℕ = c.args.word in
    let m : ℕ = c.args.words in
    let is = cut_is m w c.requires.sized in
    let some = c.in-Err.ensures.blank.0 in record {
      number = w - w % m + m - 1;
      above = omega (arith, some);
      within = omega (arith, is.low);
      blank = c.in-Err.ensures.blank.1;
    }
