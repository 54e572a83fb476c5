use Rattle.std.proofs.Common.{◌≡◌, ℕ, ◌<◌, ◌≤◌, length, None, slice_index_or}
use Rattle.rv32_hart.proofs.Releases.{released_at}
use Rattle.rv32_hart.proofs.reservations.Reservations.end_others.Given as goal

abbrev pub invariant-loop-other : goal.invariant-loop-other
invariant-loop-other l = record {
  same_length : length l.self ≡ length l.initial.self;
  done : (k : ℕ) → k < l.other → slice_index_or l.self k None ≡ released_at l.writer l.word k
      (slice_index_or l.initial.self k None);
  left : (k : ℕ) → l.other ≤ k → slice_index_or l.self k None
      ≡ slice_index_or l.initial.self k None;
}
