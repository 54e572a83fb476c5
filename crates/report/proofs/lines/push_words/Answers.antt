use Rattle.std.proofs.Common.{string_bytes}
use Rattle.report.proofs.TextLaws.{word_lines-more}
use Rattle.report.proofs.lines.push_words.Goals as goal

pub loop-i-preserved : goal.loop-i-preserved
loop-i-preserved c =
    word_lines-more c.args.shadow.now.range c.args.shadow.now.words c.loop-i.i c.word.result
    (string_bytes c.args.text.now)
    (string_bytes c.loop-i.text) (string_bytes c.push_accessed.new.text)
    c.word.ensures.value c.loop-i.invariant (rw c.range-range.ensures.value at
    c.in_ok-push_accessed.ensures)
