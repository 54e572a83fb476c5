use Rattle.std.proofs.Common.{Some, ap, ◌∙◌}
use Rattle.base.specs.declared.ending.Ending.{Ending}
use Rattle.command_line.specs.Explain.{explain_meaning}
use Rattle.command_line.specs.Words.{explain}
use Rattle.guest.specs.Runs.{rest_of}
use Rattle.predator_cli.specs.Explain.{explained}
use Rattle.predator_cli.specs.Run.{status_for}
use Rattle.predator_cli.proofs.Ends.{finish_unknown}
use Rattle.predator_cli.proofs.ExplainEnds.{explain_worked}
use Rattle.predator_cli.proofs.explain.explain_loaded.Goals as goal

pub returns-in-Ok : goal.returns-in-Ok
returns-in-Ok g c = λ old ready.
    let d = explain_meaning c.args.options.now in
    let r = rest_of c.args.loaded.guest in
    let ends = c.status_of.ensures.value
    ∙ ap (λ (e : Ending). status_for e.outcome) c.in-Ok.ensures.ending in
    c.finish.ensures (explain d) old
    (rw (ends, c.deref.ensures.value, c.in-Ok.ensures.text)
    (explain_worked d c.args.loaded.symbols.items r old (g.S.Shelf.outside c.args.shelf.now)
    c.is_allowed.ensures ready))

pub returns-in-Err : goal.returns-in-Err
returns-in-Err g c = λ old ready.
    let d = explain_meaning c.args.options.now in
    let r = rest_of c.args.loaded.guest in
    let w = explained d c.args.loaded.symbols.items r in
    c.refuse.ensures (Some (explain d)) old
    (finish_unknown (explain d) old (g.S.Shelf.outside c.args.shelf.now) w.status w.text
    (explain_worked d c.args.loaded.symbols.items r old (g.S.Shelf.outside c.args.shelf.now)
    c.is_allowed.ensures ready))
