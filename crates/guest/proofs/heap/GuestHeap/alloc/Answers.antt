use Rattle.std.proofs.Common.{◌≡◌, ◌<◌, ◌≤◌, length, max, Some, arith}
use Rattle.guest.specs.Heaps.{Heap, rounded}
use Rattle.guest.specs.LiveBlocks.{first_place, most_free}
use Rattle.guest.proofs.HeapBlocks.{has_room, least, made-laid, nowhere, roomy}
use Rattle.guest.proofs.Tiles.{tiled-fit, tiled-rise}
use Rattle.guest.proofs.heap.GuestHeap.alloc.Goals as goal

pub returns-then-bytes-from-clause-place : goal.returns-then-bytes-from-clause-place
returns-then-bytes-from-clause-place c =
    let live = c.self.inside.live.0 in
    let heap : Heap = record {
      start = c.self.inside.start;
      end = c.self.inside.end;
      blocks = c.self.inside.blocks.items;
    } in
    let short : max c.self.inside.gap (most_free live) < rounded c.args.size = omega (
      arith,
      c.if-bytes-from.true,
      c.rounded-bytes.ensures.value,
      c.from.ensures,
      c.max.ensures,
      c.most.ensures,
    ) in
    rw (← c.self.view_is) (nowhere heap c.self.inside.gap c.args.size live c.self.invariant short)

pub returns-in_err-reserve-clause-settled : goal.returns-in_err-reserve-clause-settled
returns-in_err-reserve-clause-settled c =
    let live = c.self.inside.live.0 in
    let heap : Heap = record {
      start = c.self.inside.start;
      end = c.self.inside.end;
      blocks = c.self.inside.blocks.items;
    } in
    let room = has_room (length heap.blocks) (rw (← c.self.view_is) at c.if-is_spent.ensures).1 in
    let held : rounded c.args.size ≤ max c.self.inside.gap (most_free live) = omega (
      arith,
      c.if-bytes-from.false,
      c.rounded-bytes.ensures.value,
      c.from.ensures,
      c.max.ensures,
      c.most.ensures,
    ) in
    λ none. absurd (roomy heap c.self.inside.gap c.args.size live c.self.invariant room held
    (rw (← c.self.view_is) at none))

pub insert-requires-clause-rising : goal.insert-requires-clause-rising
insert-requires-clause-rising c =
    tiled-rise c.self.inside.start c.self.inside.gap c.self.inside.end c.self.inside.live.0
    c.self.invariant.tiled

pub insert-requires-clause-ends : goal.insert-requires-clause-ends
insert-requires-clause-ends c =
    tiled-fit c.self.inside.start c.self.inside.gap c.self.inside.end c.self.inside.live.0
    (let r = c.self.ranges in omega arith) c.self.invariant.tiled

pub invariant_of-self-in-Ok : goal.invariant_of-self-in-Ok
invariant_of-self-in-Ok c =
    let live = c.self.inside.live.0 in
    let heap : Heap = record {
      start = c.self.inside.start;
      end = c.self.inside.end;
      blocks = c.self.inside.blocks.items;
    } in
    let room = has_room (length heap.blocks) (rw (← c.self.view_is) at c.if-is_spent.ensures).1 in
    let is : first_place (rounded c.args.size) c.self.inside.start c.self.inside.gap live
    ≡ Some c.in-Ok.place = rw c.rounded-bytes.ensures.value at c.in-Ok.ensures.place in
    let numbered : c.len-number.result ≡ length heap.blocks =
    omega (arith, c.len-number.ensures, c.reserve.ensures.len) in
    rw (
      c.push_reserved.ensures.items,
      c.reserve.ensures.items,
      c.in-Ok.ensures.blocks,
      c.in-Ok.ensures.gap,
      c.rounded-bytes.ensures.value,
    )
    (made-laid heap c.self.inside.gap c.args.size c.len-number.result c.in-Ok.place live
    c.self.invariant room is numbered)

pub returns-in-Ok-clause-place : goal.returns-in-Ok-clause-place
returns-in-Ok-clause-place c =
    let live = c.self.inside.live.0 in
    let heap : Heap = record {
      start = c.self.inside.start;
      end = c.self.inside.end;
      blocks = c.self.inside.blocks.items;
    } in
    let room = has_room (length heap.blocks) (rw (← c.self.view_is) at c.if-is_spent.ensures).1 in
    let is : first_place (rounded c.args.size) c.self.inside.start c.self.inside.gap live
    ≡ Some c.in-Ok.place = rw c.rounded-bytes.ensures.value at c.in-Ok.ensures.place in
    rw (← c.self.view_is)
    (least heap c.self.inside.gap c.args.size live c.self.invariant c.in-Ok.place room is)

pub returns-in-Err-clause-settled : goal.returns-in-Err-clause-settled
returns-in-Err-clause-settled c =
    let live = c.self.inside.live.0 in
    let heap : Heap = record {
      start = c.self.inside.start;
      end = c.self.inside.end;
      blocks = c.self.inside.blocks.items;
    } in
    let room = has_room (length heap.blocks) (rw (← c.self.view_is) at c.if-is_spent.ensures).1 in
    let held : rounded c.args.size ≤ max c.self.inside.gap (most_free live) = omega (
      arith,
      c.if-bytes-from.false,
      c.rounded-bytes.ensures.value,
      c.from.ensures,
      c.max.ensures,
      c.most.ensures,
    ) in
    λ none. absurd (roomy heap c.self.inside.gap c.args.size live c.self.invariant room held
    (rw (← c.self.view_is) at none))
