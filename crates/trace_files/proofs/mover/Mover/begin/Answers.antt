use Rattle.std.proofs.Common.{List, [], ap, length, refl, subst}
use Rattle.shelf.specs.Files.{AreCut, one_file}
use Rattle.shelf.specs.OnTheirWay.{IsOutputs}
use Rattle.trace_format.specs.declared.record.Header.{Header}
use Rattle.trace_format.specs.Writing.{begun_with}
use Rattle.trace_files.proofs.Movings.{has_begun, no_file_there, none_begun_there, none_new}
use Rattle.shelf.specs.OneFile.{Waiting}
use Rattle.trace_files.proofs.mover.Mover.begin.Goals as goal

pub begin_trace-requires-clause-place : goal.begin_trace-requires-clause-place
begin_trace-requires-clause-place g c =
    let way = c.requires.way in
    ap (λ (l : List Waiting). length l)
    (no_file_there way.0 c.args.self.now.name.now c.args.self.now way.1
    (g.S.Shelf.outside c.args.shelf.now) way.2)

pub begin_trace-requires-clause-name : goal.begin_trace-requires-clause-name
begin_trace-requires-clause-name g c =
    let way = c.requires.way in
    none_new way.0 c.args.self.now.name.now c.args.self.now way.1
    (g.S.Shelf.outside c.args.shelf.now) way.2 c.args.self.now.name.now

pub begin_trace-requires-clause-begun : goal.begin_trace-requires-clause-begun
begin_trace-requires-clause-begun g c =
    let way = c.requires.way in
    none_begun_there way.0 c.args.self.now.name.now c.args.self.now way.1
    (g.S.Shelf.outside c.args.shelf.now) way.2

pub returns-in-Ok-clause-moved : goal.returns-in-Ok-clause-moved
returns-in-Ok-clause-moved g c = λ table before has.
    has_begun table c.args.self.now.name.now c.args.self.now before
    (g.S.Shelf.outside c.args.shelf.now) has c.args.version c.args.header _
    (g.S.Shelf.outside c.begin_trace.new.shelf) refl refl refl refl c.in-Ok.ensures.writer
    (subst (λ (h : Header). IsOutputs c.begin_trace.new.self
    (one_file c.args.self.now.name.now (begun_with c.args.version h [])) before
    (g.S.Shelf.outside c.begin_trace.new.shelf)) c.narrowed.ensures.value
    (c.in-Ok.ensures.outputs [] before has.outputs)) c.requires.small

pub returns-in-Err-clause-cut : goal.returns-in-Err-clause-cut
returns-in-Err-clause-cut g c = λ table before has.
    subst (λ (h : Header). AreCut
    (one_file c.args.self.now.name.now (begun_with c.args.version h [])) before
    (g.S.Shelf.outside c.begin_trace.new.shelf) c.in-Err.error) c.narrowed.ensures.value
    (c.in-Err.ensures.cut [] before has.outputs)
