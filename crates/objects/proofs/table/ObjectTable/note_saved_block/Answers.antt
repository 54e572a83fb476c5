use Rattle.std.proofs.Common.{◌≡◌, arith, length}
use Rattle.std.specs.Ordering.{nat_cmp}
use Rattle.std.specs.BTreeMap as tree
use Rattle.objects.proofs.LiveLaws.{joined}
use Rattle.objects.proofs.table.ObjectTable.note_saved_block.Goals as goal

pub invariant_of-self-2 : goal.invariant_of-self-2
invariant_of-self-2 c =
    let blocks = c.self.inside.blocks.items in
    let number : c.len.result ≡ length blocks = omega (arith, c.len.ensures, c.reserve.ensures.len)
    in
    let apart = rw (← c.self.view_is) at c.requires in (
      c.self.invariant.0,
      rw (c.push_reserved.ensures.items, c.reserve.ensures.items)
          (joined (tree.get nat_cmp c.self.inside.live) blocks c.self.invariant.1 c.args.block
          (tree.get nat_cmp c.note_life.new.live)
          apart (rw number at c.in_ok-note_life.ensures.noted)),
    )
