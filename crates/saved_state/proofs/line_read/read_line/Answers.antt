use Rattle.std.proofs.Common.{sym, ◌∙◌, arith}
use Rattle.saved_state.proofs.Spelled.{line_behind-in, line_behind-short}
use Rattle.saved_state.specs.Parts.{header_meant}
use Rattle.saved_state.proofs.line_read.read_line.Goals as goal

pub returns-then-bytes-lt16-clause-value : goal.returns-then-bytes-lt16-clause-value
returns-then-bytes-lt16-clause-value c = λ before rising last.
    let h = header_meant c.args.header.now in
    sym (line_behind-short h c.args.last c.args.bytes.now (omega arith))
    ∙ line_behind-in h before c.args.last c.args.bytes.now rising last

pub returns-clause-value : goal.returns-clause-value
returns-clause-value c = λ before rising last.
    c.line_behind.ensures.value ∙ line_behind-in
    (header_meant c.args.header.now) before c.args.last c.args.bytes.now rising last
