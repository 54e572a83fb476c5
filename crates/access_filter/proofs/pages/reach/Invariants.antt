use Rattle.std.proofs.Common.{◌≡◌, ℕ, ◌+◌, ◌-◌, ◌≤◌, vec_len}
use Rattle.access_filter.specs.Pages.{page_at}
use Rattle.access_filter.proofs.pages.reach.Given as goal

-- each place keeps its windows, and none is taken away
abbrev pub invariant-loop-alloc : goal.invariant-loop-alloc
invariant-loop-alloc l = record {
  same : (k : ℕ) → page_at l.pages.items k ≡ page_at l.fn.pages.items k;
  grown : vec_len l.fn.pages ≤ vec_len l.pages;
}

abbrev pub decreases-loop-alloc : goal.decreases-loop-alloc
decreases-loop-alloc l = l.place + 1 - vec_len l.pages
