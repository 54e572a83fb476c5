use Rattle.std.proofs.Common.{◌≡◌, ℕ, ◌+◌, ◌-◌, ◌≤◌, vec_len}
use Rattle.detector.specs.Pages.{items_at}
use Rattle.detector.proofs.pages.reach.Given as goal

-- each place keeps its items, and none is taken away
abbrev pub invariant-loop-alloc : goal.invariant-loop-alloc
invariant-loop-alloc g l = record {
  same : (k : ℕ) → items_at l.all.items k ≡ items_at l.fn.all.items k;
  grown : vec_len l.fn.all ≤ vec_len l.all;
}

abbrev pub decreases-loop-alloc : goal.decreases-loop-alloc
decreases-loop-alloc g l = l.place + 1 - vec_len l.all
