-- Those behind are noted, and those ahead are as they were.
use Rattle.std.proofs.Common.{◌≡◌, ℕ, ◌+◌, ◌<◌, ◌≤◌, vec_len, length, slice_get}
use Rattle.std.specs.Prelude.{option_map, ◌⊎◌}
use Rattle.layout_sweep.specs.Counts.{swept_after}
use Rattle.layout_sweep.specs.Pages.{window_in}
use Rattle.layout_sweep.specs.Windows.{window_after}
use Rattle.layout_sweep.proofs.pages.note_page.Given as goal

abbrev pub invariant-loop-i : goal.invariant-loop-i
invariant-loop-i g l = record {
  inside : (j : ℕ) → j < l.i → window_in l.page.items (l.place + j)
      ≡ window_after (window_in l.fn.page.items (l.place + j)) l.access;
  outside : (q : ℕ) → (q < l.place) ⊎ (l.place + l.i ≤ q)
      → window_in l.page.items q ≡ window_in l.fn.page.items q;
  counts : (j : ℕ) → j < l.i → slice_get l.counts j
      ≡ option_map (λ x. swept_after x (window_in l.fn.page.items (l.place + j)) l.access)
      (slice_get l.fn.counts j);
  later : (j : ℕ) → l.i ≤ j → slice_get l.counts j ≡ slice_get l.fn.counts j;
  long : length l.counts ≡ length l.fn.counts;
  page : vec_len l.page ≡ vec_len l.fn.page;
  cost : l.steps ≡ l.fn.steps + l.i;
}
