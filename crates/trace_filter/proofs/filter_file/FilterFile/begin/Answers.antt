use Rattle.std.proofs.Common.{◌∙◌, List, [], ap, subst, ℕ}
use Rattle.shelf.specs.Files.{AreCut, Output}
use Rattle.shelf.specs.OnTheirWay.{IsOutputs}
use Rattle.trace_format.specs.declared.before.Before.{Before}
use Rattle.trace_format.specs.declared.record.Version.TheVariants.{Four}
use Rattle.trace_format.specs.Writing.{Writing}
use Rattle.trace_filter.proofs.FilterFiles.{nothing_came, nothing_written}
use Rattle.trace_filter.proofs.filter_file.FilterFile.begin.Goals as goal

pub returns-in-Ok-clause-begun : goal.returns-in-Ok-clause-begun
returns-in-Ok-clause-begun g c =
    let k : ℕ = c.args.near in
    let old = g.S.Shelf.outside c.args.shelf.now in
    let new = g.S.Shelf.outside c.begin_trace.new.shelf in
    record {
      near = c.new.ensures.near ∙ c.from.ensures;
      filtered = c.new.ensures.filtered;
      writer = c.in-Ok.ensures.writer
          ∙ ap (λ (b : Before). let w : Writing = record { version = Four; before = b } in w)
          (nothing_written k);
      outputs = subst (λ (l : List Output). IsOutputs c.begin_trace.new.self l old new)
          (nothing_came k c.args.name.now c.args.header)
          (c.in-Ok.ensures.outputs [] old (c.new-files.ensures.outputs old));
    }

pub returns-clause-cut : goal.returns-clause-cut
returns-clause-cut g c =
    let old = g.S.Shelf.outside c.args.shelf.now in
    let new = g.S.Shelf.outside c.begin_trace.new.shelf in
    subst (λ (l : List Output). AreCut l old new c.in-Err.error)
    (nothing_came c.args.near c.args.name.now c.args.header)
    (c.in-Err.ensures.cut [] old (c.new-files.ensures.outputs old))
