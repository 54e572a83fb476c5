use Rattle.std.proofs.Common.{Some, codes}
use Rattle.command_line.specs.Filter.{filter_meaning}
use Rattle.command_line.specs.Words.{filter as asks}
use Rattle.predator_cli.specs.Copies.{copy_text}
use Rattle.predator_cli.proofs.FilterEnds.{Filters, filter_faulty, filter_worked}
use Rattle.predator_cli.proofs.filter.filter.Goals as goal

pub returns-in-Ok : goal.returns-in-Ok
returns-in-Ok g c =
    let d = filter_meaning c.args.options.now in
    let a = g.S.Shelf.outside c.args.shelf.now in
    let b = g.S.Shelf.outside c.filter_trace.new.shelf in
    let k = c.args.options.now.near in
    let traces = c.a_trace_with_pcs_is_filtered_whole.ensures in
    let lists = c.a_filtered_trace_has_the_filtered_list.ensures in
    let counts = c.filtered_lists_keep_counts.ensures in
    let harts = c.filtered_lists_keep_harts.ensures in
    let laws : Filters k = record {
      accepted = traces.accepted;
      found = traces.found;
      whole = traces.whole k;
      read = λ bytes t small is three few. c.a_filtered_trace_is_a_trace.ensures k bytes t
          c.requires.0 c.requires.1 small is three few;
      accesses = lists.accesses k;
      next = lists.next k;
      counts = counts.counts k;
      sweep = counts.sweep k;
      without = counts.filtered k;
      harts = harts.harts k;
      sites = harts.filtered k;
    } in
    let copied = c.in-Ok.ensures.filtered in
    c.print_copies.ensures (asks d) a
    (filter_worked d laws a b c.in-Ok.made _ copied
    (λ i. copy_text (codes "filter") (copied.stated.whole i) (copied.stated.kept i)))

pub returns-in-Err : goal.returns-in-Err
returns-in-Err g c =
    let d = filter_meaning c.args.options.now in
    let a = g.S.Shelf.outside c.args.shelf.now in
    let b = g.S.Shelf.outside c.filter_trace.new.shelf in
    let k = c.args.options.now.near in
    let traces = c.a_trace_with_pcs_is_filtered_whole.ensures in
    let lists = c.a_filtered_trace_has_the_filtered_list.ensures in
    let counts = c.filtered_lists_keep_counts.ensures in
    let harts = c.filtered_lists_keep_harts.ensures in
    let laws : Filters k = record {
      accepted = traces.accepted;
      found = traces.found;
      whole = traces.whole k;
      read = λ bytes t small is three few. c.a_filtered_trace_is_a_trace.ensures k bytes t
          c.requires.0 c.requires.1 small is three few;
      accesses = lists.accesses k;
      next = lists.next k;
      counts = counts.counts k;
      sweep = counts.sweep k;
      without = counts.filtered k;
      harts = harts.harts k;
      sites = harts.filtered k;
    } in
    c.refuse.ensures (Some (asks d)) a
    (rw c.status_of_filter.ensures
    (filter_faulty d laws a b c.in-Err.fault c.in-Err.ensures.given_up))
