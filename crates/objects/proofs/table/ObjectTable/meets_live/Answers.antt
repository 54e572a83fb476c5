use Rattle.std.proofs.Common.{◌≡◌, ◌∙◌, sym, refl, true, false}
use Rattle.std.specs.Prelude.{is_none}
use Rattle.std.specs.Ordering.{nat_cmp}
use Rattle.std.specs.BTreeMap as tree
use Rattle.objects.proofs.LiveLaws.{meets_found}
use Rattle.objects.proofs.table.ObjectTable.meets_live.Goals as goal

pub returns-then-is_none : goal.returns-then-is_none
returns-then-is_none c =
    let block = c.args.block.now in
    let lives : is_none block.died ≡ true = rw (c.is_none.ensures, c.if-is_none.true) refl in
    rw (← c.self.view_is) (c.contains_key.ensures
    ∙ sym (meets_found (tree.get nat_cmp c.self.inside.live) c.self.inside.blocks.items
    c.self.invariant.1 block.addr (is_none block.died) ∙ rw lives refl))

pub returns-else-is_none : goal.returns-else-is_none
returns-else-is_none c =
    let block = c.args.block.now in
    let died : is_none block.died ≡ false = rw (c.is_none.ensures, c.if-is_none.false) refl in
    rw (← c.self.view_is) (c.if-is_none.false
    ∙ sym (meets_found (tree.get nat_cmp c.self.inside.live) c.self.inside.blocks.items
    c.self.invariant.1 block.addr (is_none block.died) ∙ rw died refl))
