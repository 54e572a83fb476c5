use Rattle.std.proofs.Common.{◌≡◌, ◌++◌, string_bytes, codes}
use Rattle.std.specs.Fmt.{decimal}
use Rattle.std.specs.Result.{IfOk}
use Rattle.program_files.proofs.TextPieces.{segment_pieces}
use Rattle.program_files.proofs.summaries.segment_line.Goals as goal

pub returns : goal.returns
returns c =
    let base = string_bytes c.in_ok-base.base in
    let size = decimal c.args.segment.size in
    let read = c.right-read.result.now in
    let write = c.right-write.result.now in
    let run = c.right-run.result.now in
    let text : IfOk c.format.result
    (λ s. string_bytes s ≡ codes "segment " ++
    (base ++ (codes " " ++ (size ++ (codes " " ++ (read ++ (write ++ (run ++ codes "\n")))))))) =
    c.format.ensures.ok in
    rw (
      segment_pieces base size read write run,
      c.in_ok-base.ensures,
      c.right-read.ensures,
      c.right-write.ensures,
      c.right-run.ensures,
    ) at
    text
