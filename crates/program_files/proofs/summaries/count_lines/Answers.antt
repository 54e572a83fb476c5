use Rattle.std.proofs.Common.{◌≡◌, ◌++◌, string_bytes, codes}
use Rattle.std.specs.Fmt.{decimal}
use Rattle.std.specs.Result.{IfOk}
use Rattle.program_files.proofs.TextPieces.{count_pieces}
use Rattle.program_files.proofs.summaries.count_lines.Goals as goal

pub returns : goal.returns
returns c =
    let objects = c.count_of-objects.result in
    let functions = c.count_of-functions.result in
    let text : IfOk c.format.result
    (λ s. string_bytes s ≡ codes "objects "
    ++ (decimal objects ++ (codes "\nfunctions " ++ (decimal functions ++ codes "\n")))) =
    c.format.ensures.ok in
    rw (count_pieces objects functions, c.count_of-objects.ensures, c.count_of-functions.ensures) at
    text
