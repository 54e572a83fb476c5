use Rattle.std.proofs.Common.{◌≡◌, ℕ, ◌<◌, ◌≤◌, true, slice_index_or}
use Rattle.rv32_hart.specs.Space.{no_page}
use Rattle.rv32_hart.proofs.memory.are_mapped.Given as goal

abbrev pub invariant-loop-number : goal.invariant-loop-number
invariant-loop-number l = (k : ℕ) → l.first ≤ k → k < l.number
    → (slice_index_or l.pages k no_page).mapped ≡ true
