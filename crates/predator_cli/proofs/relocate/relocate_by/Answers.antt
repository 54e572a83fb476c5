use Rattle.std.proofs.Common.{◌≡◌, Err, Ok, Some, ap, codes}
use Rattle.command_line.specs.Relocate.{move_meaning}
use Rattle.command_line.specs.Words.{relocate as asks}
use Rattle.shelf.specs.Laws.Known.{known_still}
use Rattle.shelf.specs.Shelf.{content}
use Rattle.trace_files.specs.Tables.{table_of}
use Rattle.predator_cli.specs.Copies.{copy_text}
use Rattle.predator_cli.proofs.MoveEnds.{Moves, move_faulty, moved_worked}
use Rattle.predator_cli.proofs.relocate.relocate_by.Goals as goal

pub returns-in-Ok : goal.returns-in-Ok
returns-in-Ok g c = λ old accepted holds is_table.
    let d = move_meaning c.args.options.now in
    let m = g.S.Shelf.outside c.args.shelf.now in
    let b = g.S.Shelf.outside c.move_trace.new.shelf in
    let table = c.args.table.now in
    let law = c.a_moved_trace_is_a_trace.ensures in
    let moves : Moves table = record {
      accepted = law.accepted table;
      regions = law.regions;
      found = law.found table;
      whole = law.whole table;
      read = λ bytes t small is few. law.trace table bytes t is_table small is few;
      accesses = law.accesses table;
      is_table = is_table;
    } in
    let copied = c.in-Ok.ensures.moved in
    c.print_copies.ensures (asks d) old
    (moved_worked d table moves old m b accepted
    (known_still (λ files. table_of (content files d.table) ≡ Ok table) m.held b.held
    copied.written.only.held holds) c.in-Ok.made _ copied
    (λ i. copy_text (codes "move") (copied.stated.accesses i) (copied.stated.moved i)))

pub returns-in-Err : goal.returns-in-Err
returns-in-Err g c = λ old accepted holds is_table.
    let d = move_meaning c.args.options.now in
    let m = g.S.Shelf.outside c.args.shelf.now in
    let b = g.S.Shelf.outside c.move_trace.new.shelf in
    let table = c.args.table.now in
    let law = c.a_moved_trace_is_a_trace.ensures in
    let moves : Moves table = record {
      accepted = law.accepted table;
      regions = law.regions;
      found = law.found table;
      whole = law.whole table;
      read = λ bytes t small is few. law.trace table bytes t is_table small is few;
      accesses = law.accesses table;
      is_table = is_table;
    } in
    let failed = c.in-Err.ensures in
    c.refuse.ensures (Some (asks d)) old
    (rw c.status_of_move.ensures
    (move_faulty d table moves old m b accepted
    (known_still (λ files. table_of (content files d.table) ≡ Ok table) m.held b.held
    failed.given_up.held_stay holds) c.in-Err.fault
    (λ r is. failed.refused r (ap Err is)) (λ addr is. failed.occupied addr (ap Err is))
    (λ addr is. failed.far addr (ap Err is)) (λ is. failed.memory (ap Err is)) failed.given_up))
