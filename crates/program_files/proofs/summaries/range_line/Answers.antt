use Rattle.std.proofs.Common.{◌≡◌, ◌++◌, string_bytes, codes}
use Rattle.std.specs.Result.{IfOk}
use Rattle.program_files.proofs.TextPieces.{range_pieces}
use Rattle.program_files.proofs.summaries.range_line.Goals as goal

pub returns : goal.returns
returns c =
    let first = string_bytes c.in_ok-first.first in
    let end = string_bytes c.in_ok-end.end in
    let text : IfOk c.format.result (λ s. string_bytes s ≡ c.args.name.now
    ++ (first ++ (codes " " ++ (end ++ codes "\n")))) =
    c.format.ensures.ok in
    rw (range_pieces c.args.name.now first end, c.in_ok-first.ensures, c.in_ok-end.ensures) at text
