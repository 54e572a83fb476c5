use Rattle.std.proofs.Common.{option_map, pos, string_bytes}
use Rattle.std.specs.Fmt.{decimal}
use Rattle.base.specs.Addresses.{address_text}
use Rattle.report.specs.Lines.{function_word}
use Rattle.invalidations.proofs.TextLaws.{site_pieces}
use Rattle.invalidations.proofs.text.push_site_in.Goals as goal

pub returns : goal.returns
returns c =
    let w = c.args.word in
    rw (← site_pieces (string_bytes c.args.text.now) (address_text (pos c.args.pc))
    (decimal w.reads) (decimal w.writes)
    (function_word (option_map (λ name. name.now) c.args.function)) w.owner)
    (rw (c.in_ok-push_function.ensures, c.in_ok-push_owner.ensures, c.in_ok-push_visits.ensures)
    at c.push_line_end.ensures)
