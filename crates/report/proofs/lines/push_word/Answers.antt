use Rattle.report.proofs.TextLaws.{word_pieces}
use Rattle.std.proofs.Common.{string_bytes}
use Rattle.report.proofs.lines.push_word.Goals as goal

pub returns : goal.returns
returns c =
    rw (← word_pieces c.args.range c.args.i c.args.word (string_bytes c.args.text.now))
    (rw c.in_ok-push_numbers.ensures at c.push_owner.ensures)
