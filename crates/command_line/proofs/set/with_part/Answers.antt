use Rattle.std.proofs.Common.{◌∙◌, sym}
use Rattle.command_line.proofs.SetLemmas.{part_at_equals, part_without_equals}
use Rattle.command_line.proofs.set.with_part.Goals as goal

pub returns-in-Some : goal.returns-in-Some
returns-in-Some c =
    c.with_words.ensures
    ∙ part_at_equals c.args.changes c.args.part.now c.in-Some.name c.in-Some.digits
    c.in-Some.ensures.cases

pub returns-in-None : goal.returns-in-None
returns-in-None c =
    sym (part_without_equals c.args.changes c.args.part.now c.in-None.ensures.cases)
