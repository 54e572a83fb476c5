use Rattle.std.proofs.Common.{◌∙◌, Err, Some, ap, codes}
use Rattle.command_line.specs.Convert.{convert_meaning}
use Rattle.command_line.specs.Words.{convert}
use Rattle.trace_files.specs.Copies.{conversion, other_version}
use Rattle.predator_cli.specs.Convert.{convert_text, version_number}
use Rattle.predator_cli.specs.Copies.{copy_text}
use Rattle.predator_cli.proofs.CopyEnds.{copy_faulty, copy_worked, is_convert}
use Rattle.predator_cli.proofs.convert.convert.Goals as goal

pub returns-in-Ok : goal.returns-in-Ok
returns-in-Ok g c =
    let d = convert_meaning c.args.options.now in
    let a = g.S.Shelf.outside c.args.shelf.now in
    let b = g.S.Shelf.outside c.convert_trace.new.shelf in
    let copied = c.in-Ok.ensures.copied in
    let version = c.version_number-version.ensures ∙ ap version_number copied.stated.0 in
    c.print_copies.ensures (convert d) a
    (copy_worked (convert d) d.trace convert_text (conversion d.file) (is_convert d) a b _ copied
    (λ t says. says.2)
    (ap (λ v. copy_text (codes "convert") v c.in-Ok.made.accesses) version
    ∙ ap (copy_text (codes "convert") (version_number (other_version copied.trace.version)))
    copied.stated.1))

pub returns-in-Err : goal.returns-in-Err
returns-in-Err g c =
    let d = convert_meaning c.args.options.now in
    let a = g.S.Shelf.outside c.args.shelf.now in
    let b = g.S.Shelf.outside c.convert_trace.new.shelf in
    let failed = c.in-Err.ensures in
    c.refuse.ensures (Some (convert d)) a
    (rw c.status_of_copy.ensures
    (copy_faulty (convert d) d.trace convert_text (conversion d.file)
    (is_convert d) a b c.in-Err.fault (record {
      refused = λ r is. failed.refused r (ap Err is);
      stays = λ r is. failed.stays r (ap Err is);
      memory = λ is. failed.memory (ap Err is);
      changed = λ r is. failed.changed r (ap Err is);
      accepted = λ is. failed.accepted (ap Err is);
      begun = failed.begun;
      stopped = failed.stopped;
    })))
