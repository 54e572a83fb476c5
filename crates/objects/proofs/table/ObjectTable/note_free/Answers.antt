use Rattle.std.proofs.Common.{sym}
use Rattle.std.specs.Ordering.{nat_cmp}
use Rattle.std.specs.BTreeMap as tree
use Rattle.objects.specs.Blocks.{is_live_at}
use Rattle.objects.specs.Laws.Indexes.{kept_apart, within_if_some}
use Rattle.objects.proofs.Lives.{other_blocks}
use Rattle.objects.proofs.TableLaws.{freed, freed-index}
use Rattle.objects.proofs.table.ObjectTable.note_free.Goals as goal

pub end_life-requires : goal.end_life-requires
end_life-requires c =
    within_if_some is_live_at (tree.get nat_cmp c.self.inside.live) c.self.inside.blocks.items
    c.args.addr c.self.invariant.1 _ (sym
    c.remove-old.ensures.value)

pub invariant_of-self : goal.invariant_of-self
invariant_of-self c = (
  c.self.invariant.0,
  freed-index c.self.inside.blocks.items c.end_life.new.blocks.items
      (tree.get nat_cmp c.self.inside.live) c.args.position c.args.addr
      c.self.invariant.1
      (tree.get nat_cmp c.remove-old.new.self) _ (sym c.remove-old.ensures.value)
      c.end_life.ensures.items c.remove-old.ensures.updates.1
      (λ q apart. c.remove-old.ensures.updates.2 q (kept_apart c.args.addr q apart)),
)

pub returns : goal.returns
returns c =
    rw (← c.self.view_is)
    (other_blocks _ _ _ (freed c.self.inside.blocks.items c.end_life.new.blocks.items
    (tree.get nat_cmp c.self.inside.live)
    c.args.position c.args.addr c.self.invariant.1
    _ (sym c.remove-old.ensures.value) c.end_life.ensures.items))
