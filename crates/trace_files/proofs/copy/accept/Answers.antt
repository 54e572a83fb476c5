use Rattle.std.proofs.Common.{Err, ap, ◌∙◌}
use Rattle.trace_files.proofs.Pieces.{first_refused, refused_at}
use Rattle.trace_files.proofs.copy.accept.Goals as goal

pub returns-in-Err-clause-refused : goal.returns-in-Err-clause-refused
returns-in-Err-clause-refused g c = λ refusal same.
    let is = first_refused c.in-Err.fault c.first_fault.result refusal c.first_fault.ensures (cc) in
    refused_at (g.S.Shelf.outside c.pass.new.shelf).held c.args.name.now c.unfiltered.result c.unfiltered.ensures
    refusal (c.pass.ensures.refused refusal (c.in-Err.is ∙ ap Err is))
