use Rattle.std.proofs.Common.{arith}
use Rattle.std.proofs.lemmas.Str.Pattern.{strip_prefix_char}
use Rattle.command_line.proofs.NumberLemmas.{behind-stripped}
use Rattle.command_line.proofs.address.behind_x.Goals as goal

pub returns : goal.returns
returns c =
    behind-stripped 120 c.args.text.now c.strip_prefix.result
    (strip_prefix_char 120 c.args.text.now c.strip_prefix.result c.strip_prefix.ensures.cases
    (omega arith))
