use Rattle.std.proofs.Common.{◌∙◌, arith, add-one, subst, sym}
use Rattle.shelf.specs.OnTheirWay.{AreApart}
use Rattle.shelf.proofs.Lasting.{stays_then}
use Rattle.shelf.proofs.OutputLists.{Moves, Stops, begun_at, finished_all, finished_more}
use Rattle.shelf.proofs.OutputLists.{finished_stops, name_at, outputs_written}
use Rattle.shelf.proofs.outputs.Outputs.finish.Goals as goal

pub finish-requires : goal.finish-requires
finish-requires g c =
    begun_at c.loop-place.self-inside.files.items c.loop-place.place c.index_mut-file.result.now
    (g.S.Shelf.outside c.loop-place.shelf)
    (omega (arith, c.loop-place.invariant.long, c.len-place-end.ensures))
    (sym c.index_mut-file.ensures.value) c.loop-place.invariant.begun

pub invariant_of-self-in-Err : goal.invariant_of-self-in-Err
invariant_of-self-in-Err g c =
    subst AreApart (sym (name_at c.loop-place.self-inside.files.items c.loop-place.place
    c.index_mut-file.result.now c.finish.new.self
    (sym c.index_mut-file.ensures.value) c.finish.ensures.name ∙ c.loop-place.invariant.names))
    c.self.invariant

pub returns-in-Err-clause-cut : goal.returns-in-Err-clause-cut
returns-in-Err-clause-cut g c =
    let f = c.index_mut-file.result.now in
    let mid = g.S.Shelf.outside c.loop-place.shelf in
    let new = g.S.Shelf.outside c.finish.new.shelf in
    let stops : Stops f (λ put. put) mid new c.in-Err.error =
    record {
      front = c.in-Err.ensures.front;
      others = c.in-Err.ensures.others;
      stand = c.in-Err.ensures.others_stand;
      cause =
          c.in-Err.ensures.cause;
      only = c.in-Err.ensures.only;
    } in
    λ outputs before on.
    finished_stops c.self.inside.files.items c.loop-place.self-inside.files.items c.loop-place.place
    f
    (g.S.Shelf.outside c.args.shelf.now) mid new c.in-Err.error c.loop-place.invariant
    c.self.invariant
    (omega (arith, c.loop-place.invariant.long, c.len-place-end.ensures))
    (sym c.index_mut-file.ensures.value) stops outputs before
    (rw (← c.self.view_is) at on)

pub loop-place-preserved : goal.loop-place-preserved
loop-place-preserved g c =
    let f = c.index_mut-file.result.now in
    let mid = g.S.Shelf.outside c.loop-place.shelf in
    let new = g.S.Shelf.outside c.finish.new.shelf in
    let moves : Moves f c.finish.new.self (λ put. put) mid new = record {
      name = c.in-Ok.ensures.name;
      sunk = c.in-Ok.ensures.sunk;
      others = c.in-Ok.ensures.others;
      stand = c.in-Ok.ensures.others_stand;
      faults = c.in-Ok.ensures.cause.quiet (λ e. cc);
      only = c.in-Ok.ensures.only;
    } in
    rw add-one
    (finished_more c.self.inside.files.items c.loop-place.self-inside.files.items c.loop-place.place
    f c.finish.new.self
    (g.S.Shelf.outside c.args.shelf.now) mid new c.loop-place.invariant c.self.invariant
    (omega (arith, c.loop-place.invariant.long, c.len-place-end.ensures))
    (sym c.index_mut-file.ensures.value) moves
    c.in-Ok.ensures.begun c.in-Ok.ensures.kept c.finish.ensures.stays)

pub returns-in-Err-clause-keeps_held : goal.returns-in-Err-clause-keeps_held
returns-in-Err-clause-keeps_held g c =
    c.in-Err.ensures.only.held ∙ c.loop-place.invariant.keeps_held

pub returns-in-Err-clause-gives : goal.returns-in-Err-clause-gives
returns-in-Err-clause-gives g c =
    c.in-Err.ensures.only.given ∙ c.loop-place.invariant.gives

pub returns-in-Err-clause-stays : goal.returns-in-Err-clause-stays
returns-in-Err-clause-stays g c =
    stays_then (g.S.Shelf.outside c.args.shelf.now) (g.S.Shelf.outside c.loop-place.shelf)
    (g.S.Shelf.outside c.finish.new.shelf) c.loop-place.invariant.stays c.finish.ensures.stays

pub returns-clause-nothing_waits : goal.returns-clause-nothing_waits
returns-clause-nothing_waits g c =
    finished_all c.self.inside.files.items c.loop-place.self-inside.files.items c.loop-place.place
    (g.S.Shelf.outside c.args.shelf.now)
    (g.S.Shelf.outside c.loop-place.shelf) c.loop-place.invariant
    (omega (arith, c.len-place-end.ensures)) (omega (arith, c.len-place-end.ensures))

pub returns-clause-outputs : goal.returns-clause-outputs
returns-clause-outputs g c = λ outputs before on. c.loop-place.invariant.outputs outputs before
    (rw (← c.self.view_is) at on)

pub returns-clause-written : goal.returns-clause-written
returns-clause-written g c = λ outputs before on.
    outputs_written c.loop-place.self-inside.files.items outputs before
    (g.S.Shelf.outside c.loop-place.shelf)
    (finished_all c.self.inside.files.items c.loop-place.self-inside.files.items c.loop-place.place
    (g.S.Shelf.outside c.args.shelf.now)
    (g.S.Shelf.outside c.loop-place.shelf) c.loop-place.invariant
    (omega (arith, c.len-place-end.ensures)) (omega (arith, c.len-place-end.ensures)))
    (c.loop-place.invariant.outputs outputs before (rw (← c.self.view_is) at on))

pub returns-clause-names : goal.returns-clause-names
returns-clause-names g c = rw (← c.self.view_is) c.loop-place.invariant.names
