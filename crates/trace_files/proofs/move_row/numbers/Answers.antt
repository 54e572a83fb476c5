use Rattle.std.proofs.Common.{None, Some, refl, sym, ◌∙◌}
use Rattle.trace_files.specs.Numerals.{number_of}
use Rattle.trace_files.proofs.Rows.{move_parts}
use Rattle.trace_files.proofs.move_row.numbers.Goals as goal

pub returns-in_err-from : goal.returns-in_err-from
returns-in_err-from c =
    rw c.from_residual.ensures
    (sym (move_parts c.args.line.now c.cut_at.result.0.now c.cut_at.result.1.now
    c.cut_at-2.result.0.now c.cut_at-2.result.1.now None
    (number_of c.cut_at-2.result.0.now) (number_of c.cut_at-2.result.1.now)
    c.cut_at.ensures.front c.cut_at.ensures.back
    c.cut_at-2.ensures.front c.cut_at-2.ensures.back
    (sym c.number.ensures ∙ c.in_err-from.was) refl refl))

pub returns-in_err-size : goal.returns-in_err-size
returns-in_err-size c =
    rw c.from_residual-in_err-size.ensures
    (sym (move_parts c.args.line.now c.cut_at.result.0.now c.cut_at.result.1.now
    c.cut_at-2.result.0.now c.cut_at-2.result.1.now (Some c.in_ok-from.from) None
    (number_of c.cut_at-2.result.1.now)
    c.cut_at.ensures.front c.cut_at.ensures.back
    c.cut_at-2.ensures.front c.cut_at-2.ensures.back
    (sym c.number.ensures ∙ c.in_ok-from.was) (sym c.number-2.ensures ∙ c.in_err-size.was) refl))

pub returns-in_err-to : goal.returns-in_err-to
returns-in_err-to c =
    rw c.from_residual-in_err-to.ensures
    (sym (move_parts c.args.line.now c.cut_at.result.0.now c.cut_at.result.1.now
    c.cut_at-2.result.0.now c.cut_at-2.result.1.now (Some c.in_ok-from.from)
    (Some c.in_ok-size.size) None
    c.cut_at.ensures.front c.cut_at.ensures.back
    c.cut_at-2.ensures.front c.cut_at-2.ensures.back
    (sym c.number.ensures ∙ c.in_ok-from.was) (sym c.number-2.ensures ∙ c.in_ok-size.was)
    (sym c.number-3.ensures ∙ c.in_err-to.was)))

pub returns : goal.returns
returns c =
    sym (move_parts c.args.line.now c.cut_at.result.0.now c.cut_at.result.1.now
    c.cut_at-2.result.0.now c.cut_at-2.result.1.now (Some c.in_ok-from.from)
    (Some c.in_ok-size.size) (Some c.in_ok-to.to)
    c.cut_at.ensures.front c.cut_at.ensures.back
    c.cut_at-2.ensures.front c.cut_at-2.ensures.back
    (sym c.number.ensures ∙ c.in_ok-from.was) (sym c.number-2.ensures ∙ c.in_ok-size.was)
    (sym c.number-3.ensures ∙ c.in_ok-to.was))
