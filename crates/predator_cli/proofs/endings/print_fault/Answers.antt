use Rattle.std.proofs.Common.{inl, inr, rules}
use Rattle.predator_cli.proofs.FaultEnds.{refuse_meets, refuse_out_of_memory}
use Rattle.predator_cli.proofs.endings.print_fault.Goals as goal

pub returns-in-Ok : goal.returns-in-Ok
returns-in-Ok g c = λ asked old faulty.
    refuse_meets asked old (g.S.Shelf.outside c.args.shelf.now) (g.S.Shelf.outside c.print.new.self)
    c.args.status faulty
    c.in-Ok.ensures.only c.in-Ok.ensures.cause.later
    (inl (
      rw (← c.requires, ← c.as_bytes.ensures.value) c.in-Ok.ensures.prints,
      c.in-Ok.ensures.cause.quiet (search rules),
    ))

pub returns-in-Err-Failed : goal.returns-in-Err-Failed
returns-in-Err-Failed g c = λ asked old faulty.
    refuse_meets asked old (g.S.Shelf.outside c.args.shelf.now) (g.S.Shelf.outside c.print.new.self)
    c.args.status faulty
    c.in-Err-Failed.ensures.only c.in-Err-Failed.ensures.cause.later
    (inr (
      c.in-Err-Failed.ensures.cause.failed (search rules),
      rw (← c.requires, ← c.as_bytes.ensures.value)
          c.in-Err-Failed.ensures.prints,
    ))

pub returns-in-Err-NoMemory : goal.returns-in-Err-NoMemory
returns-in-Err-NoMemory g c = λ asked old faulty.
    refuse_out_of_memory asked old (g.S.Shelf.outside c.args.shelf.now)
    (g.S.Shelf.outside c.print.new.self) c.args.status faulty
    c.in-Err-NoMemory.ensures.only
    (c.in-Err-NoMemory.ensures.cause.quiet (search rules))
    (rw (← c.requires, ← c.as_bytes.ensures.value) c.in-Err-NoMemory.ensures.prints)
