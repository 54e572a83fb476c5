use Rattle.std.proofs.Common.{sym, ◌∙◌}
use Rattle.invalidations.proofs.PlaceLaws.{sides-found}
use Rattle.invalidations.proofs.blame_tables.is_at.Goals as goal

pub returns-in-Some-clause-found : goal.returns-in-Some-clause-found
returns-in-Some-clause-found c = λ same.
    sides-found c.args.table.now.entries c.args.index c.in-Some.found.now c.args.key
    c.in-Some.field-0-1.now c.len.ensures.unique (sym c.in-Some.ensures.entry)
    (sym c.eq.ensures ∙ same)
