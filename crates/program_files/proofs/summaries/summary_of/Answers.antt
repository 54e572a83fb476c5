use Rattle.std.proofs.Common.{◌∙◌, ap}
use Rattle.std.proofs.lemmas.Result.{IfOk-weaker}
use Rattle.std.specs.List.{flat_map}
use Rattle.program_files.specs.Summaries.{address, segment_text}
use Rattle.program_files.proofs.PlacedSummaries.{summary_joined}
use Rattle.program_files.proofs.summaries.summary_of.Goals as goal

pub returns : goal.returns
returns c =
    let image = c.args.image.now in
    IfOk-weaker c.format.result _ _
    (λ text made. made ∙ summary_joined c.args.view.now image.heap_start image.heap_end image.top
    c.args.symbols.now.symbols _ _ _ _ _
    (c.in_ok-entry.ensures ∙ ap address c.entry.ensures.value)
    (c.in_ok-segments.ensures ∙ ap (flat_map segment_text) c.segments.ensures)
    c.in_ok-counts.ensures c.in_ok-heap.ensures c.in_ok-stacks.ensures)
    c.format.ensures.ok
