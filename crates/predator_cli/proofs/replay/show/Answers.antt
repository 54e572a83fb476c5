use Rattle.std.proofs.Common.{List, ℕ, Some, subst}
use Rattle.command_line.specs.Replay.{replay_meaning}
use Rattle.command_line.specs.Words.{replay}
use Rattle.shelf.specs.Files.{AreCut, AreWritten}
use Rattle.command_io.specs.Works.{output_for}
use Rattle.predator_cli.proofs.ReplayEnds.{saved_cut, saved_worked}
use Rattle.predator_cli.proofs.replay.show.Goals as goal

pub returns-in-Ok : goal.returns-in-Ok
returns-in-Ok g c = λ old ready.
    let d = replay_meaning c.args.options.now in
    let a = g.S.Shelf.outside c.args.shelf.now in
    let b = g.S.Shelf.outside c.save.new.shelf in
    c.finish.ensures (replay d) old
    (rw c.deref-in-Ok.ensures.value (saved_worked d c.args.counted.now.text.items
    c.args.counted.now.state.items old a b ready
    (subst (λ (l : List ℕ). AreWritten (output_for d.save l) a b) c.deref.ensures.value
    c.in-Ok.ensures.written)))

pub returns-in-Err : goal.returns-in-Err
returns-in-Err g c = λ old ready.
    let d = replay_meaning c.args.options.now in
    let a = g.S.Shelf.outside c.args.shelf.now in
    let b = g.S.Shelf.outside c.save.new.shelf in
    c.refuse.ensures (Some (replay d)) old
    (rw c.from.ensures (saved_cut d c.args.counted.now.text.items c.args.counted.now.state.items old
    a b ready c.in-Err.error
    (subst (λ (l : List ℕ). AreCut (output_for d.save l) a b c.in-Err.error) c.deref.ensures.value
    c.in-Err.ensures.cut)))
