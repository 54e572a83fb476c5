use Rattle.std.proofs.Common.{◌≡◌, false, None, Some, ap, sym, ◌∙◌, refl, true≢false, arith}
use Rattle.guest.specs.declared.heap.HeapBlock.{HeapBlock}
use Rattle.guest.specs.Heaps.{Heap, lives_at}
use Rattle.guest.specs.HeapLayout.{number_at}
use Rattle.objects.specs.Laws.Indexes.{any_passes, map_one, no_place, none_passes}
use Rattle.objects.specs.Laws.Indexes.{only_place, passes_within}
use Rattle.guest.proofs.HeapBlocks.{died-laid, kept-laid, other_heap_blocks}
use Rattle.guest.proofs.Tiles.{tiled-rise, tiled-span}
use Rattle.guest.proofs.heap.GuestHeap.free.Goals as goal

pub remove-requires-clause-rising : goal.remove-requires-clause-rising
remove-requires-clause-rising c =
    tiled-rise c.self.inside.start c.self.inside.gap c.self.inside.end c.self.inside.live.0
    c.self.invariant.tiled

pub remove-requires-clause-fits : goal.remove-requires-clause-fits
remove-requires-clause-fits c =
    let span = tiled-span c.self.inside.start c.self.inside.gap c.self.inside.end c.self.inside.live.0
    c.self.invariant.tiled in
    let r = c.self.ranges in omega (arith, span)

pub invariant_of-self : goal.invariant_of-self
invariant_of-self c =
    let live = c.self.inside.live.0 in
    let none : number_at live c.args.addr ≡ None = sym c.remove.ensures.number ∙ c.in_default.is in
    rw (c.remove.ensures.gap, c.remove.ensures.blocks)
    (kept-laid c.self.inside.start c.self.inside.gap c.self.inside.end c.args.addr live
    c.self.inside.blocks.items c.self.invariant none)

pub returns-in_default-clause-live : goal.returns-in_default-clause-live
returns-in_default-clause-live c =
    let live = c.self.inside.live.0 in
    let none : number_at live c.args.addr ≡ None = sym c.remove.ensures.number ∙ c.in_default.is in
    let gone = no_place lives_at (number_at live) c.self.inside.blocks.items c.args.addr
    c.self.invariant.index none in
    rw (← c.self.view_is) (
      λ e. absurd (true≢false (sym e)),
      λ h. absurd (true≢false (sym h ∙ none_passes (lives_at c.args.addr)
          c.self.inside.blocks.items gone)),
    )

pub index_mut-requires : goal.index_mut-requires
index_mut-requires c =
    let live = c.self.inside.live.0 in
    let found : number_at live c.args.addr ≡ Some c.in-Some.number =
    sym c.remove.ensures.number ∙ c.in-Some.is in
    let within = passes_within (lives_at c.args.addr) c.self.inside.blocks.items c.in-Some.number
    (c.self.invariant.index.found c.args.addr c.in-Some.number found) in
    omega (arith, within)

pub invariant_of-self-2 : goal.invariant_of-self-2
invariant_of-self-2 c =
    let live = c.self.inside.live.0 in
    let heap : Heap = record {
      start = c.self.inside.start;
      end = c.self.inside.end;
      blocks = c.self.inside.blocks.items;
    } in
    let found : number_at live c.args.addr ≡ Some c.in-Some.number =
    sym c.remove.ensures.number ∙ c.in-Some.is in
    rw (c.remove.ensures.gap, c.remove.ensures.blocks)
    (died-laid heap c.self.inside.gap c.args.addr c.in-Some.number live c.index_mut.result.now _
    c.self.invariant found c.index_mut.ensures.value refl (λ q. refl))

pub returns-clause-live : goal.returns-clause-live
returns-clause-live c =
    let live = c.self.inside.live.0 in
    let found : number_at live c.args.addr ≡ Some c.in-Some.number =
    sym c.remove.ensures.number ∙ c.in-Some.is in
    rw (← c.self.view_is) (
      λ e. any_passes (lives_at c.args.addr) c.self.inside.blocks.items c.in-Some.number
          (c.self.invariant.index.found c.args.addr c.in-Some.number found),
      λ h. refl,
    )

pub returns-clause-freed : goal.returns-clause-freed
returns-clause-freed c =
    let live = c.self.inside.live.0 in
    let found : number_at live c.args.addr ≡ Some c.in-Some.number =
    sym c.remove.ensures.number ∙ c.in-Some.is in
    let index = c.self.invariant.index in
    let d : HeapBlock → HeapBlock = λ b. record b { live = false } in
    rw (← c.self.view_is)
    (other_heap_blocks _ _ _ _
    (sym (map_one (lives_at c.args.addr) d c.self.inside.blocks.items c.in-Some.number _
    c.index_mut.result.now
    (only_place lives_at (number_at live) c.self.inside.blocks.items c.args.addr c.in-Some.number
    index found)
    (index.found c.args.addr c.in-Some.number found) (ap d c.index_mut.ensures.value))))
