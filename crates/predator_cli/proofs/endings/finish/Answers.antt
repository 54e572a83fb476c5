use Rattle.std.proofs.Common.{rules}
use Rattle.predator_cli.proofs.Ends.{finish_failed, finish_meets, finish_out_of_memory}
use Rattle.predator_cli.proofs.endings.finish.Goals as goal

pub returns-in-Ok : goal.returns-in-Ok
returns-in-Ok g c = λ demand old worked.
    finish_meets demand old (g.S.Shelf.outside c.args.shelf.now)
    (g.S.Shelf.outside c.print.new.self) c.args.status c.args.text.now
    c.requires worked c.in-Ok.ensures.only (c.in-Ok.ensures.cause.quiet (search rules))
    c.in-Ok.ensures.prints

pub returns-in-Err-Failed : goal.returns-in-Err-Failed
returns-in-Err-Failed g c = λ demand old worked.
    finish_failed demand old (g.S.Shelf.outside c.args.shelf.now)
    (g.S.Shelf.outside c.print.new.self) c.args.status c.args.text.now worked
    c.in-Err-Failed.ensures.only (c.in-Err-Failed.ensures.cause.failed (search rules))
    c.in-Err-Failed.ensures.prints

pub returns : goal.returns
returns g c = λ demand old worked.
    finish_out_of_memory demand old (g.S.Shelf.outside c.args.shelf.now)
    (g.S.Shelf.outside c.print.new.self) c.args.status c.args.text.now
    worked c.in-Err-NoMemory.ensures.only
    (c.in-Err-NoMemory.ensures.cause.quiet (search rules))
    c.in-Err-NoMemory.ensures.prints
