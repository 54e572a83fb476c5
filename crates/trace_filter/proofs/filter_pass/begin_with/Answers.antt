use Rattle.std.proofs.Common.{[], drop, sym, take}
use Rattle.std.proofs.lemmas.List.{take-append-drop}
use Rattle.trace_filter.proofs.filter_pass.begin_with.Goals as goal

pub returns-in-Ok-put_all-clause-came : goal.returns-in-Ok-put_all-clause-came
returns-in-Ok-put_all-clause-came g c =
    c.in-Ok-put_all.ensures.came c.args.near c.args.name.now c.args.header []
    (g.S.Shelf.outside c.args.shelf.now) c.in-Ok.ensures.begun

pub returns-clause-cut : goal.returns-clause-cut
returns-clause-cut g c = λ version.
    let cut = c.in-Err-put_all.ensures.cut in
    record {
      put = take cut.0 c.args.items.now;
      more = drop cut.0 c.args.items.now;
      first = sym (take-append-drop cut.0 c.args.items.now);
      cut = cut.1 c.args.near c.args.name.now c.args.header []
          (g.S.Shelf.outside c.args.shelf.now) c.in-Ok.ensures.begun;
    }
