use Rattle.std.proofs.Common.{◌∙◌, ap}
use Rattle.sharing_rules.specs.Lines.{range_of}
use Rattle.invalidations.proofs.TextLaws.{counted_as}
use Rattle.invalidations.proofs.text.push_counted_line.Goals as goal

pub returns : goal.returns
returns c =
    let k = c.args.explainer.now in
    counted_as c.push_counted.result c.args.text.now c.push_counted.new.text c.range-range.result
    (range_of k.line) c.start-start.result k.start c.count-count.result k.count
    (c.range-range.ensures ∙ ap range_of c.line.ensures) c.start-start.ensures
    c.count-count.ensures c.push_counted.ensures
