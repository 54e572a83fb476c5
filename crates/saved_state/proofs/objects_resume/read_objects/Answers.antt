use Rattle.std.proofs.Common.{◌≡◌, ◌∙◌, length, Err, sym, ap, arith}
use Rattle.std.proofs.lemmas.Bool.Decides.{nat_tests}
use Rattle.base.specs.declared.faults.ResumeFault.{ResumeFault}
use Rattle.saved_state.proofs.ObjectPartLaws.{judged_enough, judged_short, none_left, some_left}
use Rattle.saved_state.proofs.objects_resume.read_objects.Goals as goal

pub returns-then-part-lt-COUNTS_LENGTH : goal.returns-then-part-lt-COUNTS_LENGTH
returns-then-part-lt-COUNTS_LENGTH c = λ memory.
    sym (judged_short c.args.place c.args.position c.args.part.now
    (omega (arith, c.if-part-lt-COUNTS_LENGTH.true)))

pub returns-in-Err : goal.returns-in-Err
returns-in-Err c = λ memory.
    sym (judged_enough c.args.place c.args.position c.args.part.now
    (omega (arith, c.if-part-lt-COUNTS_LENGTH.false))
    ∙ c.in-Err.ensures.refused (λ e. memory (ap (λ (f : ResumeFault). Err f) e)))

pub returns-then-is_empty : goal.returns-then-is_empty
returns-then-is_empty c = λ memory.
    let empty : length c.in-Ok.rest.bytes.now ≡ 0 = grind
    (arith, nat_tests, c.is_empty.ensures, c.if-is_empty.true) in
    sym (judged_enough c.args.place c.args.position c.args.part.now
    (omega (arith, c.if-part-lt-COUNTS_LENGTH.false))
    ∙ c.in-Ok.ensures.read ∙ none_left c.in-Ok.rest.place c.read_units.new.table
    c.in-Ok.rest.bytes.now empty)

pub returns-else-is_empty : goal.returns-else-is_empty
returns-else-is_empty c = λ memory.
    sym (judged_enough c.args.place c.args.position c.args.part.now
    (omega (arith, c.if-part-lt-COUNTS_LENGTH.false))
    ∙ c.in-Ok.ensures.read
    ∙ some_left c.in-Ok.rest.place c.read_units.new.table c.in-Ok.rest.bytes.now
    (λ empty. grind (arith, nat_tests, c.is_empty.ensures, c.if-is_empty.false))
    ∙ ap (λ (f : ResumeFault). Err f) (sym c.fault_at.ensures))
