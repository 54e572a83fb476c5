use Rattle.std.proofs.Common.{arith, ◌<◌, length, sym, ◌∙◌}
use Rattle.std.proofs.lemmas.Bool.Decides.{nat_tests}
use Rattle.trace_files.proofs.TableLines.{first_fault, none_left, read_on}
use Rattle.trace_files.proofs.TableLines.{unless_memory}
use Rattle.trace_files.proofs.move_table.read_lines.Goals as goal

pub returns-in-Err-clause-bad : goal.returns-in-Err-clause-bad
returns-in-Err-clause-bad c =
    unless_memory c.in-Err.fault
    (λ bad. first_fault c.args.text.now c.loop-rest.number c.loop-rest.rest.now
    c.loop-rest.rows.items c.loop-rest.invariant.read c.cut_at.result.0.now
    c.cut_at.result.1.now c.cut_at.ensures.front c.cut_at.ensures.back c.in-Err.fault bad)
    c.in-Err.ensures.bad

pub loop-rest-preserved : goal.loop-rest-preserved
loop-rest-preserved c =
    let some : 0 < length c.loop-rest.rest.now = grind (arith, nat_tests) in
    record {
      read = read_on c.args.text.now c.loop-rest.number c.loop-rest.rest.now
          c.loop-rest.rows.items c.loop-rest.invariant.read c.cut_at.result.0.now
          c.cut_at.result.1.now c.cut_at.ensures.front c.cut_at.ensures.back some
          c.in-Ok.ensures.good c.read_line.new.rows.items c.in-Ok.ensures.added;
      kept = c.in-Ok.ensures.kept;
    }

pub returns-clause-read : goal.returns-clause-read
returns-clause-read c =
    (none_left c.args.text.now c.loop-rest.number c.loop-rest.rest.now c.loop-rest.rows.items
    c.loop-rest.invariant.read (sym c.is_empty.ensures ∙ c.loop-rest-test.false)).1
