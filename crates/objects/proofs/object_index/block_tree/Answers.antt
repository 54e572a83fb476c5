use Rattle.std.proofs.Common.{arith}
use Rattle.objects.specs.declared.block.Block.{Block}
use Rattle.objects.proofs.IndexLaws.{one_more, whole_tree}
use Rattle.objects.proofs.object_index.block_tree.Goals as goal

pub loop-block-preserved : goal.loop-block-preserved
loop-block-preserved c =
    one_more (λ (b : Block). b.addr) (λ (b : Block). b.size) c.args.blocks.now
    c.loop-block.block-index _ c.loop-block.nodes.items c.push_node.new.nodes.items
    c.loop-block-test.true c.loop-block.invariant c.in_ok-push_node.ensures

pub returns : goal.returns
returns c =
    whole_tree (λ (b : Block). b.addr) (λ (b : Block). b.size) c.args.blocks.now
    c.loop-block.block-index c.loop-block.nodes.items c.tree_of.result.items
    (omega (arith, c.loop-block-test.false)) c.loop-block.invariant
    c.tree_of.ensures.tree c.tree_of.ensures.same
