use Rattle.std.proofs.Common.{◌++◌, ◌∷◌, [], ◌+◌, List, sym, subst, ◌∙◌, take}
use Rattle.std.proofs.lemmas.List.{take_all}
use Rattle.std.proofs.lemmas.List.Elements.{All-get_or}
use Rattle.shelf.specs.Files.{AreCut, Output}
use Rattle.shelf.specs.OnTheirWay.{IsOutputs}
use Rattle.trace_format.specs.Rules.{IsWritable}
use Rattle.trace_format.specs.declared.record.TraceRecord.{TraceRecord}
use Rattle.trace_files.proofs.Going.{put_none, under_way}
use Rattle.trace_files.proofs.Readings.{seen_more}
use Rattle.trace_files.proofs.copy.put_all.Goals as goal

pub loop-item-init : goal.loop-item-init
loop-item-init g c =
    put_none g.T.Target.waiting g.T.Target.files g.T.Target.has c.args.items.now c.args.target.now
    (g.S.Shelf.outside c.args.shelf.now)

pub put-requires : goal.put-requires
put-requires g c = record {
  writable = subst IsWritable (sym c.item-item.is)
      (All-get_or IsWritable c.args.items.now c.loop-item.item-index c.item-item.result
      c.loop-item-test.true c.requires.writable);
  way = under_way g.T.Target.waiting g.T.Target.files g.T.Target.has c.args.items.now
      c.loop-item.item-index c.args.target.now
      c.loop-item.target (g.S.Shelf.outside c.args.shelf.now) (g.S.Shelf.outside c.loop-item.shelf)
      c.requires.way c.loop-item.invariant;
}

pub loop-item-preserved : goal.loop-item-preserved
loop-item-preserved g c =
    let x = c.loop-item.invariant in
    let items = c.args.items.now in
    let one = c.in-Ok.ensures in
    let more = seen_more items c.loop-item.item-index c.item-item.result c.loop-item-test.true
    c.item-item.is in
    record {
      files_stay = c.put.ensures.files ∙ x.files_stay;
      came = λ seen h. subst (g.T.Target.has c.put.new.self) (more seen)
          (one.has (seen ++ take c.loop-item.item-index items) (x.came seen h));
      outputs = λ seen before h on.
          let all = seen ++ take c.loop-item.item-index items in
          let new = g.S.Shelf.outside c.put.new.shelf in
          let then = subst (λ (f : List TraceRecord → List Output). IsOutputs
          (g.T.Target.waiting c.loop-item.target) (f all) before
          (g.S.Shelf.outside c.loop-item.shelf)
          → IsOutputs (g.T.Target.waiting c.put.new.self) (f (all ++ c.item-item.result ∷ []))
          before new) x.files_stay
          (one.outputs all before (x.came seen h)) in
          subst (λ (l : List TraceRecord). IsOutputs (g.T.Target.waiting c.put.new.self)
          (g.T.Target.files c.args.target.now l) before new)
          (more seen) (then (x.outputs seen before h on));
      keeps_held = c.put.ensures.keeps_held ∙ x.keeps_held;
      gives = c.put.ensures.gives ∙ x.gives;
    }

pub returns-in-Err-clause-keeps_held : goal.returns-in-Err-clause-keeps_held
returns-in-Err-clause-keeps_held g c =
    c.put.ensures.keeps_held ∙ c.loop-item.invariant.keeps_held

pub returns-in-Err-clause-gives : goal.returns-in-Err-clause-gives
returns-in-Err-clause-gives g c =
    c.put.ensures.gives ∙ c.loop-item.invariant.gives

pub returns-in-Err-clause-cut : goal.returns-in-Err-clause-cut
returns-in-Err-clause-cut g c =
    let x = c.loop-item.invariant in
    let items = c.args.items.now in
    let more = seen_more items c.loop-item.item-index c.item-item.result c.loop-item-test.true
    c.item-item.is in
    let new = g.S.Shelf.outside c.put.new.shelf in (
      c.loop-item.item-index + 1,
      λ seen before h on.
          let all = seen ++ take c.loop-item.item-index items in
          let then = subst (λ (f : List TraceRecord → List Output). IsOutputs
          (g.T.Target.waiting c.loop-item.target) (f all) before
          (g.S.Shelf.outside c.loop-item.shelf)
          → AreCut (f (all ++ c.item-item.result ∷ [])) before new c.in-Err.error) x.files_stay
          (c.in-Err.ensures.cut all before (x.came seen h)) in
          subst (λ (l : List TraceRecord). AreCut (g.T.Target.files c.args.target.now l) before new
          c.in-Err.error)
          (more seen) (then (x.outputs seen before h on)),
    )

pub returns-in-Err-clause-files : goal.returns-in-Err-clause-files
returns-in-Err-clause-files g c = c.put.ensures.files ∙ c.loop-item.invariant.files_stay

pub returns-clause-has : goal.returns-clause-has
returns-clause-has g c = λ seen h.
    subst (λ (l : List TraceRecord). g.T.Target.has c.loop-item.target (seen ++ l))
    (take_all c.loop-item.item-index c.args.items.now c.loop-item-test.false)
    (c.loop-item.invariant.came seen h)

pub returns-clause-outputs : goal.returns-clause-outputs
returns-clause-outputs g c = λ seen before h on.
    subst (λ (l : List TraceRecord). IsOutputs (g.T.Target.waiting c.loop-item.target)
    (g.T.Target.files c.args.target.now (seen ++ l)) before
    (g.S.Shelf.outside c.loop-item.shelf))
    (take_all c.loop-item.item-index c.args.items.now c.loop-item-test.false)
    (c.loop-item.invariant.outputs seen before h on)
