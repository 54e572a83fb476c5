use Rattle.std.proofs.Common.{◌∙◌, ap}
use Rattle.std.specs.Prelude.{filter_map, slice_get}
use Rattle.std.proofs.lemmas.Result.{IfOk-weaker}
use Rattle.objects.specs.declared.block.Block.{Block}
use Rattle.objects.specs.Laws.Found.{extents-rise, rows_found}
use Rattle.objects.proofs.object_index.ObjectIndex.blocks_on.Goals as goal

pub found_on-requires : goal.found_on-requires
found_on-requires c = rw c.deref.ensures.value c.self.invariant.1.tree

pub returns : goal.returns
returns c =
    let blocks = c.self.inside.objects.now.blocks in
    rw (← c.self.view_is)
    (IfOk-weaker c.found_on.result _ _
    (λ numbers is. ap (filter_map (slice_get blocks))
    (is _ (rw (← c.deref.ensures.value) at c.self.invariant.1.same)
    (extents-rise (λ (b : Block). b.addr) (λ (b : Block). b.size) blocks))
    ∙ rows_found (λ (b : Block). b.addr) (λ (b : Block). b.size) c.args.from c.args.to blocks)
    c.found_on.ensures)
