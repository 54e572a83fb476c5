use Rattle.std.proofs.Common.{string_bytes}
use Rattle.std.specs.Prelude.{option_map}
use Rattle.base.specs.TextLines.{text_of}
use Rattle.report.specs.Lines.{standing_lines}
use Rattle.report.proofs.FoundLaws.{standing-joins, text_found}
use Rattle.report.proofs.object_lines.push_blocks_of.Goals as goal

pub loop-number-preserved : goal.loop-number-preserved
loop-number-preserved c =
    let symbols = c.args.index.now.symbols in
    text_found (λ xs. text_of (standing_lines symbols c.args.range c.args.start c.args.end xs))
    (standing-joins symbols c.args.range c.args.start c.args.end)
    c.args.objects.now.blocks c.args.numbers.now c.loop-number.number-index _
    (option_map (λ b. b.now) c.block.result) (string_bytes c.args.text.now)
    (string_bytes c.loop-number.text) (string_bytes c.push_block_at.new.text)
    c.loop-number-test.true c.block.ensures c.loop-number.invariant c.in_ok-push_block_at.ensures
