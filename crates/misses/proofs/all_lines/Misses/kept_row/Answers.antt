use Rattle.std.proofs.Common.{sym}
use Rattle.misses.specs.Laws.Fits.{number-small}
use Rattle.misses.proofs.all_lines.Misses.kept_row.Goals as goal

pub numbered-requires : goal.numbered-requires
numbered-requires c =
    number-small c.self.inside.layout.size c.self.inside.position c.self.inside.lines.entries
    c.args.index c.in-Some.number.now c.in-Some.line.now c.self.invariant.0
    (sym c.in-Some.ensures.entry)
