use Rattle.std.proofs.Common.{◌∷◌, [], ◌++◌, List, sym, subst}
use Rattle.shelf.specs.Files.{AreCut, Output}
use Rattle.shelf.specs.OnTheirWay.{IsOutputs}
use Rattle.shelf.specs.Laws.Files.{AreCut-longer}
use Rattle.trace_format.specs.declared.record.Header.{Header}
use Rattle.trace_format.specs.Rules.{IsGoodHeader}
use Rattle.trace_format.specs.Writing.{begun_with}
use Rattle.trace_files.proofs.Begun.{go_behind, second_new}
use Rattle.trace_files.proofs.split.begin.Goals as goal

pub begin_trace-requires-clause-good : goal.begin_trace-requires-clause-good
begin_trace-requires-clause-good g c = subst (λ (h : Header × Header). IsGoodHeader h.0)
    (sym c.headers.ensures) c.requires.first

pub returns-in-Err-clause-cut : goal.returns-in-Err-clause-cut
returns-in-Err-clause-cut g c =
    let a = c.args in
    let old = g.S.Shelf.outside a.shelf.now in
    let one : List Output = record {
      name = a.first.now;
      bytes =
          begun_with a.version c.headers.result.0 [];
    } ∷ [] in
    let two : List Output = record {
      name = a.second.now;
      bytes =
          begun_with a.version c.headers.result.1 [];
    } ∷ [] in
    let now = g.S.Shelf.outside c.begin_trace.new.shelf in
    subst (λ (h : Header × Header). AreCut
    (record { name = a.first.now; bytes = begun_with a.version h.0 [] }
    ∷ record { name = a.second.now; bytes = begun_with a.version h.1 [] } ∷ []) old now
    c.in-Err.error) c.headers.ensures
    (AreCut-longer one (one ++ two) old now c.in-Err.error (go_behind one two)
    (c.in-Err.ensures.cut [] old (c.new-files.ensures.outputs old)))

pub begin_trace-requires-2-clause-name : goal.begin_trace-requires-2-clause-name
begin_trace-requires-2-clause-name g c =
    let a = c.args in
    let old = g.S.Shelf.outside a.shelf.now in
    second_new c.begin_trace.new.self a.first.now a.second.now
    (begun_with a.version c.headers.result.0 []) old
    (g.S.Shelf.outside c.begin_trace.new.shelf)
    (c.in-Ok.ensures.outputs [] old (c.new-files.ensures.outputs old)) c.requires.apart

pub begin_trace-requires-2-clause-good : goal.begin_trace-requires-2-clause-good
begin_trace-requires-2-clause-good g c = subst (λ (h : Header × Header). IsGoodHeader h.1)
    (sym c.headers.ensures) c.requires.second

pub returns-in-Ok-begin_trace-clause-outputs : goal.returns-in-Ok-begin_trace-clause-outputs
returns-in-Ok-begin_trace-clause-outputs g c =
    let a = c.args in
    let old = g.S.Shelf.outside a.shelf.now in
    let one : List Output = record {
      name = a.first.now;
      bytes =
          begun_with a.version c.headers.result.0 [];
    } ∷ [] in
    subst (λ (h : Header × Header). IsOutputs c.begin_trace-2.new.self
    (record { name = a.first.now; bytes = begun_with a.version h.0 [] }
    ∷ record { name = a.second.now; bytes = begun_with a.version h.1 [] } ∷ []) old
    (g.S.Shelf.outside c.begin_trace-2.new.shelf))
    c.headers.ensures
    (c.in-Ok-begin_trace.ensures.outputs one old
    (c.in-Ok.ensures.outputs [] old (c.new-files.ensures.outputs old)))

pub returns-clause-cut : goal.returns-clause-cut
returns-clause-cut g c =
    let a = c.args in
    let old = g.S.Shelf.outside a.shelf.now in
    let one : List Output = record {
      name = a.first.now;
      bytes =
          begun_with a.version c.headers.result.0 [];
    } ∷ [] in
    subst (λ (h : Header × Header). AreCut
    (record { name = a.first.now; bytes = begun_with a.version h.0 [] }
    ∷ record { name = a.second.now; bytes = begun_with a.version h.1 [] } ∷ []) old
    (g.S.Shelf.outside c.begin_trace-2.new.shelf)
    c.in-Err-begin_trace.error) c.headers.ensures
    (c.in-Err-begin_trace.ensures.cut one old
    (c.in-Ok.ensures.outputs [] old (c.new-files.ensures.outputs old)))
