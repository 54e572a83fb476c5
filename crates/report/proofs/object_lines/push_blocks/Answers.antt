use Rattle.std.proofs.Common.{◌≡◌, ℕ, List, OnOk, ap, subst, ◌∙◌}
use Rattle.std.specs.Prelude.{filter_map, slice_get}
use Rattle.objects.specs.Objects.{Objects}
use Rattle.objects.specs.declared.block.Block.{Block}
use Rattle.report.specs.Added.{AddsLines}
use Rattle.report.specs.Lines.{TextLine, standing_lines}
use Rattle.report.proofs.FoundLaws.{near_blocks}
use Rattle.report.proofs.object_lines.push_blocks.Goals as goal

pub returns : goal.returns
returns c =
    let r = c.args.range in
    let all : Objects = c.args.index.now in
    let numbers : List ℕ = c.deref.result.now in
    let lines : List Block → List TextLine =
    standing_lines all.symbols r c.args.start c.args.end in
    let same : lines (filter_map (slice_get c.table.result.now.blocks) numbers) ≡ lines all.blocks =
    ap (λ (t : Objects). lines (filter_map (slice_get t.blocks) numbers)) c.table.ensures
    ∙ ap (λ (ns : List ℕ). lines (filter_map (slice_get all.blocks) ns)) c.deref.ensures.value
    ∙ ap lines c.in_ok-numbers.ensures
    ∙ near_blocks r c.first_address.result c.end_address.result c.first_address.ensures
    c.end_address.ensures all.symbols c.args.start c.args.end all.blocks in
    subst (λ (ls : List TextLine). OnOk c.push_blocks_of.result
    (AddsLines c.args.text.now c.push_blocks_of.new.text ls)) same c.push_blocks_of.ensures
