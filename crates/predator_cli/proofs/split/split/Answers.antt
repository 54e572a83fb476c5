use Rattle.std.proofs.Common.{◌∙◌, ◌-◌, ℕ, Err, Some, ap, codes, length, sym}
use Rattle.command_line.specs.Split.{split_meaning}
use Rattle.command_line.specs.Words.{split}
use Rattle.trace_files.specs.Copies.{halves}
use Rattle.trace_format.specs.Rules.{touches_in}
use Rattle.predator_cli.specs.Copies.{copy_text}
use Rattle.predator_cli.specs.Split.{split_text}
use Rattle.predator_cli.proofs.CopyEnds.{copy_faulty, copy_worked, is_split}
use Rattle.predator_cli.proofs.split.split.Goals as goal

pub split_trace-requires : goal.split_trace-requires
split_trace-requires g c = record { apart = λ same. c.requires.0.0 (sym same) }

pub returns-in-Ok : goal.returns-in-Ok
returns-in-Ok g c =
    let d = split_meaning c.args.options.now in
    let a = g.S.Shelf.outside c.args.shelf.now in
    let b = g.S.Shelf.outside c.split_trace.new.shelf in
    let copied = c.in-Ok.ensures.copied in
    let all = length (touches_in copied.trace.items) in
    c.print_copies.ensures (split d) a
    (copy_worked (split d) d.trace (split_text d.at) (halves d.at d.first d.second)
    (is_split d (c.a_trace_counts_in_parts.ensures d)) a b _ copied
    (λ t says. says.2)
    (ap (copy_text (codes "split") c.in-Ok.made.cut) copied.stated.1
    ∙ ap (λ (cut : ℕ). copy_text (codes "split") cut (all - cut)) copied.stated.0))

pub returns-in-Err : goal.returns-in-Err
returns-in-Err g c =
    let d = split_meaning c.args.options.now in
    let a = g.S.Shelf.outside c.args.shelf.now in
    let b = g.S.Shelf.outside c.split_trace.new.shelf in
    let failed = c.in-Err.ensures in
    c.refuse.ensures (Some (split d)) a
    (rw c.status_of_copy.ensures
    (copy_faulty (split d) d.trace (split_text d.at) (halves d.at d.first d.second)
    (is_split d (c.a_trace_counts_in_parts.ensures d)) a b c.in-Err.fault (record {
      refused = λ r is. failed.refused r (ap Err is);
      stays = λ r is. failed.stays r (ap Err is);
      memory = λ is. failed.memory (ap Err is);
      changed = λ r is. failed.changed r (ap Err is);
      accepted = λ is. failed.accepted (ap Err is);
      begun = failed.begun;
      stopped = failed.stopped;
    })))
