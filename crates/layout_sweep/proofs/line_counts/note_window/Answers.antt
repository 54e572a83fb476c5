-- The page of the window is noted, or there is none and a read changes nothing.
use Rattle.std.proofs.Common.{◌≡◌, ℕ, ◌/◌, ◌%◌, ◌<◌, ◌≤◌, ◌∙◌, sym, ap, arith, length}
use Rattle.std.proofs.Common.{inl, inr, nat_lt, true}
use Rattle.std.proofs.lemmas.Bool.{cases_lt, ltb-false, ltb-true}
use Rattle.layout_sweep.specs.Pages.{page_at, window_in}
use Rattle.layout_sweep.specs.Windows.{takes, window_after}
use Rattle.layout_sweep.proofs.PageLaws.{kept_outside, page_at-held, page_at-same, unmoved_at}
use Rattle.layout_sweep.proofs.line_counts.note_window.Goals as goal

pub note_place-requires : goal.note_place-requires
note_place-requires c = record {
  made = λ writes.
      let pages = c.args.pages.now.items in
      let q : ℕ = c.args.window in
      let within : q / 4096 < length pages =
      ltb-true _ _ (sym c.has_page.ensures ∙ c.if-has_page.true) in
      let held = page_at-held pages (q / 4096) c.index_mut.result.now within
      c.index_mut.ensures.value in
      let had : nat_lt (q % 4096) (length (page_at pages (q / 4096))) ≡ true =
      c.requires.made writes in
      let low : q % 4096 < length (page_at pages (q / 4096)) = ltb-true _ _ had in
      let size : length (page_at pages (q / 4096)) ≡ length c.index_mut.result.now.items =
      ap length held in
      omega (arith, low, size);
}

pub returns-then-has_page-clause-here : goal.returns-then-has_page-clause-here
returns-then-has_page-clause-here c =
    let pages = c.args.pages.now.items in
    let q : ℕ = c.args.window in
    let within : q / 4096 < length pages =
    ltb-true _ _ (sym c.has_page.ensures ∙ c.if-has_page.true) in
    let held = page_at-held pages (q / 4096) c.index_mut.result.now within
    c.index_mut.ensures.value in
    ap (λ xs. window_in xs (q % 4096)) (page_at-same pages (q / 4096) c.note_place.new.page within)
    ∙ c.note_place.ensures.here
    ∙ ap (λ xs. window_after (window_in xs (q % 4096)) c.args.access) (sym held)

pub returns-then-has_page-clause-others : goal.returns-then-has_page-clause-others
returns-then-has_page-clause-others c = λ k other.
    let pages = c.args.pages.now.items in
    let q : ℕ = c.args.window in
    let within : q / 4096 < length pages =
    ltb-true _ _ (sym c.has_page.ensures ∙ c.if-has_page.true) in
    let held = page_at-held pages (q / 4096) c.index_mut.result.now within
    c.index_mut.ensures.value in
    kept_outside pages q k 1 c.note_place.new.page within
    (λ j far. c.note_place.ensures.others j (λ is. elim far [
      | inl low ↦ absurd (omega (arith, is, low))
      | inr high ↦ absurd (omega (arith, is, high))
    ]) ∙ ap (λ xs. window_in xs j) (sym held))
    (elim (cases_lt k q) [
      | inl low ↦ inl low
      | inr high ↦ inr (omega (arith, high, other))
    ])

pub returns-then-has_page-clause-taken : goal.returns-then-has_page-clause-taken
returns-then-has_page-clause-taken c =
    let pages = c.args.pages.now.items in
    let q : ℕ = c.args.window in
    let within : q / 4096 < length pages =
    ltb-true _ _ (sym c.has_page.ensures ∙ c.if-has_page.true) in
    let held = page_at-held pages (q / 4096) c.index_mut.result.now within
    c.index_mut.ensures.value in
    c.note_place.ensures.taken
    ∙ ap (λ xs. takes (window_in xs (q % 4096)) c.args.access) (sym held)

pub returns-else-has_page-clause-here : goal.returns-else-has_page-clause-here
returns-else-has_page-clause-here c =
    let past : length c.args.pages.now.items ≤ c.args.window / 4096 =
    ltb-false _ _ (sym c.has_page.ensures ∙ c.if-has_page.false) in
    (unmoved_at c.args.pages.now.items c.args.window c.args.access past c.requires.made).same

pub returns-else-has_page-clause-taken : goal.returns-else-has_page-clause-taken
returns-else-has_page-clause-taken c =
    let past : length c.args.pages.now.items ≤ c.args.window / 4096 =
    ltb-false _ _ (sym c.has_page.ensures ∙ c.if-has_page.false) in
    sym (unmoved_at c.args.pages.now.items c.args.window c.args.access past c.requires.made).untaken
