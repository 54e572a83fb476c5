-- The page of the windows is noted, or there is none and a read changes nothing.
use Rattle.std.proofs.Common.{◌≡◌, ℕ, ◌+◌, ◌/◌, ◌%◌, ◌<◌, ◌≤◌, ◌∙◌, sym, ap, arith, length}
use Rattle.std.proofs.Common.{nat_lt, true}
use Rattle.std.proofs.lemmas.Bool.{ltb-false, ltb-true}
use Rattle.std.specs.Prelude.{slice_set}
use Rattle.layout_sweep.specs.Laws.Lines.{in_page}
use Rattle.layout_sweep.specs.Pages.{page_at, window_at, window_in}
use Rattle.layout_sweep.specs.Windows.{window_after}
use Rattle.layout_sweep.proofs.PageLaws.{at_place, counted_as, kept_outside, kept_pages}
use Rattle.layout_sweep.proofs.PageLaws.{page_at-held, page_at-same, uncounted, unmoved}
use Rattle.layout_sweep.proofs.pages.note_windows.Goals as goal

pub note_page-requires-clause-made : goal.note_page-requires-clause-made
note_page-requires-clause-made g c = λ writes i less.
    let pages = c.args.pages.now.items in
    let b : ℕ = c.args.first in
    let within : b / 4096 < length pages =
    ltb-true _ _ (sym c.has_page.ensures ∙ c.if-has_page.true) in
    let held = page_at-held pages (b / 4096) c.index_mut.result.now within
    c.index_mut.ensures.value in
    let there = in_page b i (length c.args.counts.now) c.requires.within less in
    let had : nat_lt ((b + i) % 4096) (length (page_at pages ((b + i) / 4096))) ≡ true =
    c.requires.made writes i less in
    let low : (b + i) % 4096 < length (page_at pages ((b + i) / 4096)) = ltb-true _ _ had in
    let size : length (page_at pages ((b + i) / 4096)) ≡ length c.index_mut.result.now.items =
    ap length (ap (page_at pages) there.0 ∙ held) in
    omega (arith, low, size, there.1)

pub returns-then-has_page-clause-inside : goal.returns-then-has_page-clause-inside
returns-then-has_page-clause-inside g c = λ i less.
    let pages = c.args.pages.now.items in
    let b : ℕ = c.args.first in
    let a = c.args.access in
    let new = c.note_page.new.page in
    let within : b / 4096 < length pages =
    ltb-true _ _ (sym c.has_page.ensures ∙ c.if-has_page.true) in
    let held = page_at-held pages (b / 4096) c.index_mut.result.now within
    c.index_mut.ensures.value in
    let there = in_page b i (length c.args.counts.now) c.requires.within less in
    at_place (slice_set pages (b / 4096) new) b i new.items there
    (page_at-same pages (b / 4096) new within)
    ∙ c.note_page.ensures.inside i less
    ∙ ap (λ w. window_after w a) (sym (at_place pages b i c.index_mut.result.now.items there held))

pub returns-then-has_page-clause-outside : goal.returns-then-has_page-clause-outside
returns-then-has_page-clause-outside g c = λ q away.
    let pages = c.args.pages.now.items in
    let b : ℕ = c.args.first in
    let within : b / 4096 < length pages =
    ltb-true _ _ (sym c.has_page.ensures ∙ c.if-has_page.true) in
    let held = page_at-held pages (b / 4096) c.index_mut.result.now within
    c.index_mut.ensures.value in
    kept_outside pages b q (length c.args.counts.now) c.note_page.new.page within
    (λ k far. c.note_page.ensures.outside k far ∙ ap (λ xs. window_in xs k) (sym held)) away

pub returns-then-has_page-clause-counts : goal.returns-then-has_page-clause-counts
returns-then-has_page-clause-counts g c =
    let pages = c.args.pages.now.items in
    let b : ℕ = c.args.first in
    let within : b / 4096 < length pages =
    ltb-true _ _ (sym c.has_page.ensures ∙ c.if-has_page.true) in
    let held = page_at-held pages (b / 4096) c.index_mut.result.now within
    c.index_mut.ensures.value in
    counted_as c.args.counts.now c.note_page.new.counts c.args.access
    (λ i. window_in c.index_mut.result.now.items (b % 4096 + i)) (λ i. window_at pages (b + i))
    c.note_page.ensures.counts
    (λ i less. sym (at_place pages b i c.index_mut.result.now.items
    (in_page b i (length c.args.counts.now) c.requires.within less) held))

pub returns-then-has_page-clause-keeps : goal.returns-then-has_page-clause-keeps
returns-then-has_page-clause-keeps g c = λ q had.
    let pages = c.args.pages.now.items in
    let b : ℕ = c.args.first in
    let within : b / 4096 < length pages =
    ltb-true _ _ (sym c.has_page.ensures ∙ c.if-has_page.true) in
    let held = page_at-held pages (b / 4096) c.index_mut.result.now within
    c.index_mut.ensures.value in
    let long : length c.note_page.new.page.items ≡ length c.index_mut.result.now.items =
    omega (arith, c.note_page.ensures.page) in
    kept_pages pages (b / 4096) q c.note_page.new.page within (long ∙ ap length (sym held)) had

pub returns-else-has_page-clause-inside : goal.returns-else-has_page-clause-inside
returns-else-has_page-clause-inside g c = λ i less.
    let b : ℕ = c.args.first in
    let past : length c.args.pages.now.items ≤ b / 4096 =
    ltb-false _ _ (sym c.has_page.ensures ∙ c.if-has_page.false) in
    (unmoved c.args.pages.now.items b i c.args.access
    (in_page b i (length c.args.counts.now) c.requires.within less).0 past
    (λ writes. c.requires.made writes i less)).same

pub returns-else-has_page-clause-counts : goal.returns-else-has_page-clause-counts
returns-else-has_page-clause-counts g c =
    let b : ℕ = c.args.first in
    let past : length c.args.pages.now.items ≤ b / 4096 =
    ltb-false _ _ (sym c.has_page.ensures ∙ c.if-has_page.false) in
    uncounted c.args.counts.now c.args.access (λ i. window_at c.args.pages.now.items (b + i))
    (λ i less. (unmoved c.args.pages.now.items b i c.args.access
    (in_page b i (length c.args.counts.now) c.requires.within less).0 past
    (λ writes. c.requires.made writes i less)).untaken)
