use Rattle.std.proofs.Common.{rules}
use Rattle.invalidations.specs.Laws.BlameFits.{few-line_at, noted-at}
use Rattle.invalidations.proofs.blame_tables.note_at.Goals as goal

pub note-requires : goal.note-requires
note-requires c =
    few-line_at c.args.lines.now.entries c.args.line c.args.index c.in-Some.known.now
    c.requires.found (search rules) c.requires.few

pub returns : goal.returns
returns c =
    noted-at c.args.lines.now.entries _ c.args.line c.args.index c.in-Some.known.now c.args.sited.now
    c.args.taken c.requires.found (search rules) (search rules)
