use Rattle.std.proofs.Common.{◌∙◌, ◌++◌, ◌∷◌, [], ap, sym, Some, arith, List, length, ◌≡◌}
use Rattle.std.specs.Ordering.{nat_cmp}
use Rattle.std.specs.BTreeMap as tree
use Rattle.objects.specs.declared.block.Block.{Block}
use Rattle.objects.specs.Blocks.{is_live_at, newborn}
use Rattle.objects.specs.Laws.Indexes.{kept_apart, within_if_some}
use Rattle.objects.proofs.Lives.{other_blocks}
use Rattle.objects.proofs.TableLaws.{Ended, freed, made-index}
use Rattle.objects.proofs.table.ObjectTable.note_alloc.Goals as goal

pub end_life-requires : goal.end_life-requires
end_life-requires c =
    rw c.reserve.ensures.items
    (within_if_some is_live_at (tree.get nat_cmp c.self.inside.live) c.self.inside.blocks.items
    c.args.addr c.self.invariant.1 _ (sym
    c.in_ok-old.ensures.old))

pub push_reserved-requires : goal.push_reserved-requires
push_reserved-requires c = omega (
  arith,
  c.end_life.ensures.len,
  c.end_life.ensures.capacity,
  c.in_ok-reserve.ensures.ok,
)

pub invariant_of-self-2 : goal.invariant_of-self-2
invariant_of-self-2 c =
    let ended : Ended c.self.inside.blocks.items c.end_life.new.blocks.items c.args.position
    c.in_ok-old.old = rw c.reserve.ensures.items
    at c.end_life.ensures.items in
    let number : c.len.result ≡ length c.self.inside.blocks.items = omega
    (arith, c.len.ensures, c.reserve.ensures.len) in (
      c.self.invariant.0,
      rw c.push_reserved.ensures.items
          (made-index c.self.inside.blocks.items c.end_life.new.blocks.items
          (tree.get nat_cmp c.self.inside.live) c.args.position
          c.args.addr c.self.invariant.1
          (tree.get nat_cmp c.insert.new.self) c.in_ok-old.old c.args.size c.args.sites
          (sym c.in_ok-old.ensures.old) ended
          (c.in_ok-old.ensures.updates.1 ∙ ap Some number)
          (λ q apart. c.in_ok-old.ensures.updates.2 q (kept_apart c.args.addr q apart))),
    )

pub returns-clause-noted : goal.returns-clause-noted
returns-clause-noted c =
    let ended : Ended c.self.inside.blocks.items c.end_life.new.blocks.items c.args.position
    c.in_ok-old.old = rw c.reserve.ensures.items
    at c.end_life.ensures.items in
    rw (← c.self.view_is, c.push_reserved.ensures.items)
    (other_blocks _ _ _ (ap (λ (bs : List Block). bs ++ newborn c.args.position c.args.addr
    c.args.size c.args.sites ∷ [])
    (freed c.self.inside.blocks.items c.end_life.new.blocks.items
    (tree.get nat_cmp c.self.inside.live) c.args.position c.args.addr
    c.self.invariant.1
    c.in_ok-old.old (sym c.in_ok-old.ensures.old) ended)))
