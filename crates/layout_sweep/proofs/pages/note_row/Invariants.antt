-- Those behind are noted and counted, and those ahead are as they were.
use Rattle.std.proofs.Common.{◌≡◌, ℕ, ◌+◌, ◌<◌, ◌≤◌, length, slice_get}
use Rattle.std.specs.Prelude.{option_map, ◌⊎◌}
use Rattle.layout_sweep.specs.Counts.{swept_after}
use Rattle.layout_sweep.specs.Pages.{IsTurned, window_in}
use Rattle.layout_sweep.specs.Windows.{window_after}
use Rattle.layout_sweep.proofs.pages.note_row.Given as goal

abbrev pub invariant-loop-i : goal.invariant-loop-i
invariant-loop-i g l = record {
  inside : (k : ℕ) → k < l.i → window_in l.windows (l.place + k)
      ≡ window_after (window_in l.fn.windows (l.place + k)) l.access;
  outside : (q : ℕ) → (q < l.place) ⊎ (l.place + l.i ≤ q)
      → window_in l.windows q ≡ window_in l.fn.windows q;
  turned : IsTurned (length l.fn.counts) l.first l.i l.shift;
  counts : (k j : ℕ) → k < l.i → IsTurned (length l.fn.counts) l.first k j
      → slice_get l.counts j
      ≡ option_map (λ x. swept_after x (window_in l.fn.windows (l.place + k)) l.access)
      (slice_get l.fn.counts j);
  later : (k j : ℕ) → l.i ≤ k → k < length l.fn.counts
      → IsTurned (length l.fn.counts) l.first k j
      → slice_get l.counts j ≡ slice_get l.fn.counts j;
  long : length l.counts ≡ length l.fn.counts;
  size : length l.windows ≡ length l.fn.windows;
  cost : l.steps ≡ l.fn.steps + l.i;
}
