use Rattle.std.proofs.Common.{◌≡◌, ℕ, ◌&&◌, if◌then◌else◌, nat_le, nat_lt, slice_index_or}
use Rattle.rv32_hart.specs.Space.{no_page}
use Rattle.rv32_hart.specs.Changes.{granted}
use Rattle.rv32_hart.proofs.memory.grant.Given as goal

abbrev pub invariant-loop-i : goal.invariant-loop-i
invariant-loop-i l = (k : ℕ) → slice_index_or l.pages k no_page
    ≡ (if nat_le l.first k && nat_lt k l.i then granted l.writable l.executable
    (slice_index_or l.initial.pages k no_page) else slice_index_or l.initial.pages k no_page)
