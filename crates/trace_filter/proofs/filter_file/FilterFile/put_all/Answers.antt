use Rattle.std.proofs.Common.{◌+◌, ◌++◌, ◌∙◌, List, subst, sym, take}
use Rattle.std.proofs.lemmas.List.{take_all}
use Rattle.std.proofs.lemmas.List.Elements.{All-get_or}
use Rattle.shelf.specs.Files.{AreCut}
use Rattle.trace_format.specs.declared.record.TraceRecord.{TraceRecord}
use Rattle.trace_format.specs.Rules.{IsWritable}
use Rattle.trace_filter.specs.Files.{IsUnderWay, filtered_so_far}
use Rattle.trace_filter.proofs.ManyRecords.{came_none, may_come, seen_more}
use Rattle.trace_filter.proofs.filter_file.FilterFile.put_all.Goals as goal

pub loop-item-init : goal.loop-item-init
loop-item-init g c =
    came_none c.args.items.now c.args.self.now (g.S.Shelf.outside c.args.shelf.now)

pub put-requires : goal.put-requires
put-requires g c = record {
  writable = subst IsWritable (sym c.item-item.is)
      (All-get_or IsWritable c.args.items.now c.loop-item.item-index c.item-item.result
      c.loop-item-test.true c.requires.writable);
  way = may_come c.args.items.now c.loop-item.item-index c.args.self.now c.loop-item.self
      (g.S.Shelf.outside c.args.shelf.now) (g.S.Shelf.outside c.loop-item.shelf)
      c.loop-item.invariant c.requires.way;
}

pub loop-item-preserved : goal.loop-item-preserved
loop-item-preserved g c =
    let to = c.loop-item.invariant in
    let items = c.args.items.now in
    let i = c.loop-item.item-index in
    let new = g.S.Shelf.outside c.put.new.shelf in
    record {
      came = λ k name h seen before came.
          subst (λ (l : List TraceRecord). IsUnderWay k name h c.put.new.self l before new)
          (seen_more items i c.item-item.result c.loop-item-test.true c.item-item.is seen)
          (c.in-Ok.ensures.came k name h (seen ++ take i items) before
          (to.came k name h seen before came));
      keeps_held = c.put.ensures.keeps_held ∙ to.keeps_held;
    }

pub returns-in-Err-clause-cut : goal.returns-in-Err-clause-cut
returns-in-Err-clause-cut g c =
    let to = c.loop-item.invariant in
    let items = c.args.items.now in
    let i = c.loop-item.item-index in
    let new = g.S.Shelf.outside c.put.new.shelf in (
      i + 1,
      λ k name h seen before came.
          subst (λ (l : List TraceRecord). AreCut (filtered_so_far k name h l) before new
          c.in-Err.error)
          (seen_more items i c.item-item.result c.loop-item-test.true c.item-item.is seen)
          (c.in-Err.ensures.cut k name h (seen ++ take i items) before
          (to.came k name h seen before came)),
    )

pub returns-in-Err-clause-keeps_held : goal.returns-in-Err-clause-keeps_held
returns-in-Err-clause-keeps_held g c = c.put.ensures.keeps_held ∙ c.loop-item.invariant.keeps_held

pub returns-clause-came : goal.returns-clause-came
returns-clause-came g c = λ k name h seen before came.
    subst (λ (l : List TraceRecord). IsUnderWay k name h c.loop-item.self (seen ++ l) before
    (g.S.Shelf.outside c.loop-item.shelf))
    (take_all c.loop-item.item-index c.args.items.now c.loop-item-test.false)
    (c.loop-item.invariant.came k name h seen before came)
