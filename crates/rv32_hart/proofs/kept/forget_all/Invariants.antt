use Rattle.std.proofs.Common.{◌≡◌, ℕ, ◌<◌, slice_index_or}
use Rattle.rv32_hart.specs.KeptInstructions.{no_instr}
use Rattle.rv32_hart.proofs.kept.forget_all.Given as goal

abbrev pub invariant-loop-place : goal.invariant-loop-place
invariant-loop-place l = (i : ℕ) → i < l.place-index → slice_index_or l.kept i no_instr ≡ no_instr
