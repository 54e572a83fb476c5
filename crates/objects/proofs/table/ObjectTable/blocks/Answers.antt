use Rattle.std.specs.Ordering.{nat_cmp}
use Rattle.std.specs.BTreeMap as tree
use Rattle.objects.proofs.LiveLaws.{lone}
use Rattle.objects.proofs.table.ObjectTable.blocks.Goals as goal

pub returns-clause-lone : goal.returns-clause-lone
returns-clause-lone c =
    rw (← c.self.view_is) (lone (tree.get nat_cmp c.self.inside.live) c.self.inside.blocks.items
    c.self.invariant.1)
