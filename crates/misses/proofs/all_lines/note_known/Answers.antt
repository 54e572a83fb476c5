use Rattle.std.proofs.Common.{rules}
use Rattle.misses.specs.Laws.MissCounts.{refused-same}
use Rattle.misses.proofs.all_lines.note_known.Goals as goal

pub returns-in-Some-clause-refused : goal.returns-in-Some-clause-refused
returns-in-Some-clause-refused c =
    refused-same c.note.result c.args.lines.now.entries c.args.index c.in-Some.line.now
    c.note.new.self (search rules) c.note.ensures.refused
