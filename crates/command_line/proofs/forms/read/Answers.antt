use Rattle.clap.specs.Words.{found_of, rows_of}
use Rattle.command_line.specs.Demands.{texts}
use Rattle.command_line.proofs.AskedLemmas.{asked_refused, taken_accepted, taken_refused}
use Rattle.command_line.proofs.forms.read.Goals as goal

pub returns-in-Ok-clause-accepted : goal.returns-in-Ok-clause-accepted
returns-in-Ok-clause-accepted g c =
    let words = texts c.args.words.now in
    taken_accepted g.F.Form.app g.F.Form.of words (rows_of (found_of c.in-Ok.matches))
    (g.F.Form.asks words) (g.met.F.Form.meant words) c.in-Ok.ensures.taken c.in-Ok.ensures.rows
    c.demand.result c.demand.ensures.accepted

pub returns-in-Ok-clause-refused : goal.returns-in-Ok-clause-refused
returns-in-Ok-clause-refused g c =
    let words = texts c.args.words.now in
    taken_refused g.F.Form.app g.F.Form.of words (rows_of (found_of c.in-Ok.matches))
    (g.F.Form.asks words) (g.met.F.Form.meant words) c.in-Ok.ensures.taken c.in-Ok.ensures.rows
    c.demand.result c.demand.ensures.refused

pub returns-in-Err-clause-refused : goal.returns-in-Err-clause-refused
returns-in-Err-clause-refused g c =
    let words = texts c.args.words.now in
    asked_refused g.F.Form.app g.F.Form.of words (g.F.Form.asks words) (g.met.F.Form.meant words)
    c.in-Err.fault c.in-Err.ensures.refused
