use Rattle.std.proofs.Common.{arith, option_map}
use Rattle.objects.specs.Rows.{symbol_of}
use Rattle.objects.specs.Symbols.{Symbol}
use Rattle.objects.proofs.IndexLaws.{one_more_at, whole_tree}
use Rattle.objects.proofs.object_index.symbol_tree.Goals as goal

pub loop-i-preserved : goal.loop-i-preserved
loop-i-preserved c =
    one_more_at (λ (s : Symbol). s.addr) (λ (s : Symbol). s.size) c.args.objects.now.symbols
    c.loop-i.i (option_map symbol_of c.symbol.result) c.loop-i.nodes.items
    c.push_symbol.new.nodes.items
    (omega (arith, c.symbol_count-i-end.ensures.value, c.loop-i-test.true)) c.symbol.ensures.row
    c.loop-i.invariant c.in_ok-push_symbol.ensures

pub returns : goal.returns
returns c =
    whole_tree (λ (s : Symbol). s.addr) (λ (s : Symbol). s.size) c.args.objects.now.symbols
    c.loop-i.i c.loop-i.nodes.items c.tree_of.result.items
    (omega (arith, c.symbol_count-i-end.ensures.value, c.loop-i-test.false)) c.loop-i.invariant
    c.tree_of.ensures.tree c.tree_of.ensures.same
