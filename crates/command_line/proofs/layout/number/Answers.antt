use Rattle.std.proofs.Common.{rules, ◌∙◌}
use Rattle.command_line.proofs.NumberLemmas.{result_ok-number_of}
use Rattle.command_line.proofs.layout.number.Goals as goal

pub returns-then-is_plain_number : goal.returns-then-is_plain_number
returns-then-is_plain_number c = c.ok.ensures.value
    ∙ result_ok-number_of c.args.text.now c.parse.result
    (search rules) c.parse.ensures.value.0
