use Rattle.std.proofs.Common.{rules, ◌∙◌}
use Rattle.command_line.proofs.NumberLemmas.{result_ok-hexadecimal_of}
use Rattle.command_line.proofs.address.hexadecimal.Goals as goal

pub returns-then-is_hexadecimal_number : goal.returns-then-is_hexadecimal_number
returns-then-is_hexadecimal_number c = c.ok.ensures.value
    ∙ result_ok-hexadecimal_of c.args.digits.now c.from_str_radix.result
    (search rules) c.from_str_radix.ensures.value
