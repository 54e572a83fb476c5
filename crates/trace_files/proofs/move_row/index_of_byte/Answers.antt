use Rattle.std.proofs.Common.{arith, sym, length}
use Rattle.std.proofs.lemmas.Bool.Decides.{nat_tests}
use Rattle.std.proofs.lemmas.List.Sums.{position_or_len_is}
use Rattle.trace_files.specs.Tables.{is_byte}
use Rattle.trace_files.proofs.move_row.index_of_byte.Goals as goal

pub returns-then-byte-code : goal.returns-then-byte-code
returns-then-byte-code c =
    sym (position_or_len_is (is_byte c.args.code) c.args.text.now c.loop-place.place 0
    (omega arith) c.loop-place.invariant (λ _. grind (arith, nat_tests)))

pub returns : goal.returns
returns c = sym (position_or_len_is (is_byte c.args.code) c.args.text.now (length c.args.text.now) 0
    (omega arith)
    (λ k below. c.loop-place.invariant k (omega arith)) (λ inside. absurd (omega arith)))
