use Rattle.std.proofs.Common.{string_bytes}
use Rattle.placement.specs.Texts.{touched_line}
use Rattle.placement.proofs.TextSteps.{touched_more}
use Rattle.placement.proofs.text.push_words.Goals as goal

pub loop-i-preserved : goal.loop-i-preserved
loop-i-preserved c =
    touched_more (touched_line c.args.owners.now c.args.plan.now) c.loop-i.i
    (string_bytes c.args.text.now) (string_bytes c.loop-i.text)
    (string_bytes c.push_touched.new.text) c.loop-i.invariant c.in_ok-push_touched.ensures
