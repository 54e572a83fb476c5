use Rattle.std.proofs.Common.{ap, sym}
use Rattle.std.specs.Prelude.{is_some}
use Rattle.invalidations.specs.BlameFits.{parts_of}
use Rattle.invalidations.specs.Laws.BlameFits.{parts-new, invalidation-new}
use Rattle.invalidations.proofs.blame_tables.BlameTables.note_new.Goals as goal

pub returns-in-Ok-clause-noted : goal.returns-in-Ok-clause-noted
returns-in-Ok-clause-noted c = λ position.
    parts-new (parts_of c.args.self.now) c.args.line position c.args.sited
    c.note_first.new.lines.entries c.requires c.in-Ok.ensures.noted

pub returns-in-Ok-clause-stated : goal.returns-in-Ok-clause-stated
returns-in-Ok-clause-stated c = λ position.
    ap is_some (sym (invalidation-new (parts_of c.args.self.now) c.args.line position
    c.args.sited c.requires))
