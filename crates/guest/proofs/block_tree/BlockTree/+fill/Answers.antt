use Rattle.std.proofs.Common.{◌<◌, ◌≤◌, refl, ◌∙◌, arith}
use Rattle.guest.specs.LiveBlocks.{most_free}
use Rattle.guest.proofs.BlockLaws.{filled_here, place_here}
use Rattle.guest.proofs.BlockSteps.{filled_left_is, filled_right_is, left_fits, left_shorter, most_parts}
use Rattle.guest.proofs.BlockSteps.{placed_left, placed_right, right_fits, right_shorter, top_fits}
use Rattle.guest.proofs.block_tree.BlockTree.+fill.Goals as goal

pub returns-then-bytes-gap-clause-place : goal.returns-then-bytes-gap-clause-place
returns-then-bytes-gap-clause-place t c =
    place_here c.args.node.value.block.bytes c.args.at c.args.gap.now c.args.self.now.0
    (rw c.deref.ensures at c.if-bytes-gap.true)

pub returns-then-bytes-gap-clause-gap : goal.returns-then-bytes-gap-clause-gap
returns-then-bytes-gap-clause-gap t c =
    rw (filled_here c.args.node.value.block.bytes c.args.node.value.block.number c.args.at
    c.args.gap.now c.args.self.now.0 (rw c.deref.ensures at c.if-bytes-gap.true)) refl

pub returns-then-bytes-gap-clause-blocks : goal.returns-then-bytes-gap-clause-blocks
returns-then-bytes-gap-clause-blocks t c =
    rw (
      filled_here c.args.node.value.block.bytes c.args.node.value.block.number c.args.at
          c.args.gap.now c.args.self.now.0 (rw c.deref.ensures at c.if-bytes-gap.true),
      c.put_first.ensures.blocks,
      c.deref.ensures,
      c.deref-then-bytes-gap.ensures,
    ) refl

pub fill-place-requires : goal.fill-place-requires
fill-place-requires t c =
    let n = c.in-Some.top.value in
    let is = c.in-Some.ensures.taken in
    let held : c.args.node.value.block.bytes ≤ most_free n.left.0 =
    rw (← c.deref.ensures, ← c.deref-2.ensures, ← c.most.ensures) c.if-bytes-most.true in
    rw c.deref_mut-then-bytes-most.ensures.value (
      omega (arith, left_shorter n.left.0 n.block n.right.0 c.args.self.now.0 is, c.decreases),
      (
        omega (arith, held),
        (
          left_fits n.left.0 n.block n.right.0 c.args.self.now.0 is c.requires.ends,
          omega (arith, c.in-Some.ensures.balanced.height, c.in-Some.ensures.balanced.fits),
        ),
      ),
    )

pub returns-then-bytes-most-clause-place : goal.returns-then-bytes-most-clause-place
returns-then-bytes-most-clause-place t c =
    let n = c.in-Some.top.value in
    let is = c.in-Some.ensures.taken in
    let held : c.args.node.value.block.bytes ≤ most_free n.left.0 =
    rw (← c.deref.ensures, ← c.deref-2.ensures, ← c.most.ensures) c.if-bytes-most.true in
    placed_left n.left.0 n.block n.right.0 c.args.self.now.0 is c.args.node.value.block.bytes c.args.at
    c.args.gap.now held ∙ (rw c.deref_mut-then-bytes-most.ensures.value at c.fill-place.ensures.place)

pub returns-then-bytes-most-clause-gap : goal.returns-then-bytes-most-clause-gap
returns-then-bytes-most-clause-gap t c =
    let n = c.in-Some.top.value in
    let is = c.in-Some.ensures.taken in
    let held : c.args.node.value.block.bytes ≤ most_free n.left.0 =
    rw (← c.deref.ensures, ← c.deref-2.ensures, ← c.most.ensures) c.if-bytes-most.true in
    rw (filled_left_is n.left.0 n.block n.right.0 c.args.self.now.0 is c.args.node.value.block.bytes
    c.args.node.value.block.number c.args.at c.args.gap.now held)
    (rw c.deref_mut-then-bytes-most.ensures.value at c.fill-place.ensures.gap)

pub returns-then-bytes-most-clause-blocks : goal.returns-then-bytes-most-clause-blocks
returns-then-bytes-most-clause-blocks t c =
    let n = c.in-Some.top.value in
    let is = c.in-Some.ensures.taken in
    let held : c.args.node.value.block.bytes ≤ most_free n.left.0 =
    rw (← c.deref.ensures, ← c.deref-2.ensures, ← c.most.ensures) c.if-bytes-most.true in
    rw (
      filled_left_is n.left.0 n.block n.right.0 c.args.self.now.0 is c.args.node.value.block.bytes
          c.args.node.value.block.number c.args.at c.args.gap.now held,
      c.from.ensures,
      c.settled.ensures.blocks,
      c.fill-place.ensures.blocks,
      c.deref_mut-then-bytes-most.ensures.value,
    ) refl

pub overflow_add-end : goal.overflow_add-end
overflow_add-end t c =
    let n = c.in-Some.top.value in
    let is = c.in-Some.ensures.taken in
    rw (c.deref-3.ensures, c.deref-4.ensures)
    (omega (arith, top_fits n.left.0 n.block n.right.0 c.args.self.now.0 is c.requires.ends))

pub fill-place-requires-2 : goal.fill-place-requires-2
fill-place-requires-2 t c =
    let n = c.in-Some.top.value in
    let is = c.in-Some.ensures.taken in
    let parts = most_parts n.left.0 n.block n.right.0 c.args.self.now.0 is in
    let short : most_free n.left.0 < c.args.node.value.block.bytes =
    rw (← c.deref.ensures, ← c.deref-2.ensures, ← c.most.ensures) c.if-bytes-most.false in
    let over : c.args.gap.now < c.args.node.value.block.bytes =
    rw (← c.deref.ensures) c.if-bytes-gap.false in
    rw c.deref_mut-above.ensures.value (
      omega (arith, right_shorter n.left.0 n.block n.right.0 c.args.self.now.0 is, c.decreases),
      (
        omega (arith, parts, short, over, c.requires.held),
        (
          right_fits n.left.0 n.block n.right.0 c.args.self.now.0 is c.requires.ends,
          omega (arith, c.in-Some.ensures.balanced.height, c.in-Some.ensures.balanced.fits),
        ),
      ),
    )

pub returns-clause-place : goal.returns-clause-place
returns-clause-place t c =
    let n = c.in-Some.top.value in
    let is = c.in-Some.ensures.taken in
    let short : most_free n.left.0 < c.args.node.value.block.bytes =
    rw (← c.deref.ensures, ← c.deref-2.ensures, ← c.most.ensures) c.if-bytes-most.false in
    let over : c.args.gap.now < c.args.node.value.block.bytes =
    rw (← c.deref.ensures) c.if-bytes-gap.false in
    placed_right n.left.0 n.block n.right.0 c.args.self.now.0 is c.args.node.value.block.bytes c.args.at
    c.args.gap.now over short
    ∙ (rw (c.deref-3.ensures, c.deref-4.ensures, c.deref_mut-above.ensures.value) at
    c.fill-place-2.ensures.place)

pub returns-clause-gap : goal.returns-clause-gap
returns-clause-gap t c =
    let n = c.in-Some.top.value in
    let is = c.in-Some.ensures.taken in
    let short : most_free n.left.0 < c.args.node.value.block.bytes =
    rw (← c.deref.ensures, ← c.deref-2.ensures, ← c.most.ensures) c.if-bytes-most.false in
    let over : c.args.gap.now < c.args.node.value.block.bytes =
    rw (← c.deref.ensures) c.if-bytes-gap.false in
    rw (filled_right_is n.left.0 n.block n.right.0 c.args.self.now.0 is c.args.node.value.block.bytes
    c.args.node.value.block.number c.args.at c.args.gap.now over short) refl

pub returns-clause-blocks : goal.returns-clause-blocks
returns-clause-blocks t c =
    let n = c.in-Some.top.value in
    let is = c.in-Some.ensures.taken in
    let short : most_free n.left.0 < c.args.node.value.block.bytes =
    rw (← c.deref.ensures, ← c.deref-2.ensures, ← c.most.ensures) c.if-bytes-most.false in
    let over : c.args.gap.now < c.args.node.value.block.bytes =
    rw (← c.deref.ensures) c.if-bytes-gap.false in
    rw (
      filled_right_is n.left.0 n.block n.right.0 c.args.self.now.0 is c.args.node.value.block.bytes
          c.args.node.value.block.number c.args.at c.args.gap.now over short,
      c.from-2.ensures,
      c.settled-2.ensures.blocks,
      c.fill-place-2.ensures.blocks,
      c.fill-place-2.ensures.gap,
      c.deref_mut-above.ensures.value,
      c.deref-3.ensures,
      c.deref-4.ensures,
    ) refl
