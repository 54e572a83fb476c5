use Rattle.std.proofs.Common.{sym}
use Rattle.misses.proofs.FoundLaws.{found-there, insert-there, value-there}
use Rattle.misses.proofs.all_lines.is_at.Goals as goal

pub returns-in-Some-clause-index : goal.returns-in-Some-clause-index
returns-in-Some-clause-index c = λ same l.
    insert-there c.args.lines.now.entries c.args.index c.in-Some.key.now c.args.number
    c.in-Some.field-0-1.now same (sym c.in-Some.ensures.entry) c.len.ensures.unique l

pub returns-in-Some-clause-value : goal.returns-in-Some-clause-value
returns-in-Some-clause-value c = λ same.
    value-there c.args.lines.now.entries c.args.index c.in-Some.key.now c.args.number
    c.in-Some.field-0-1.now same (sym c.in-Some.ensures.entry) c.in-Some.ensures.value

pub returns-in-Some-clause-found : goal.returns-in-Some-clause-found
returns-in-Some-clause-found c = λ same.
    found-there c.args.lines.now.entries c.args.index c.in-Some.key.now c.args.number
    c.in-Some.field-0-1.now same (sym c.in-Some.ensures.entry) c.in-Some.ensures.value
