use Rattle.std.proofs.Common.{arith, ◌≡◌, false, get_or, sym, ◌∙◌, ap}
use Rattle.hart_scheduler.specs.Listed.{is_able}
use Rattle.hart_scheduler.specs.ScheduleParts.{ListEntry}
use Rattle.hart_scheduler.proofs.ListedLaws.{found_past, left_past}
use Rattle.hart_scheduler.proofs.listed.first_able.Goals as goal

pub loop-able-preserved : goal.loop-able-preserved
loop-able-preserved c =
    let d = c.index-entries-able.result in
    let miss : is_able c.args.runnable.now (get_or c.args.entries.now c.loop-able.able d) ≡ false =
    ap (λ (entry : ListEntry). is_able c.args.runnable.now entry) (sym c.index-entries-able.is)
    ∙ (sym c.is_able.ensures ∙ c.if-is_able.false) in
    record {
      bound = omega arith;
      found = c.loop-able.invariant.found ∙ found_past c.args.runnable.now c.args.entries.now
          c.loop-able.able d c.loop-able-test.true miss;
      left = c.loop-able.invariant.left ∙ left_past c.args.runnable.now c.args.entries.now
          c.loop-able.able d c.loop-able-test.true miss;
    }
