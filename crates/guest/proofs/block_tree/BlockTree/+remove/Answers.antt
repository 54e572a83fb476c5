use Rattle.std.proofs.Common.{◌≡◌, ◌<◌, refl, arith}
use Rattle.guest.proofs.BlockSteps.{at_here, at_left, at_right, left_rises, left_shorter, right_rises}
use Rattle.guest.proofs.BlockSteps.{right_shorter, spanned_parts, without_here_is, without_left_is}
use Rattle.guest.proofs.BlockSteps.{without_right_is}
use Rattle.guest.proofs.block_tree.BlockTree.+remove.Goals as goal

pub remove-number-requires : goal.remove-number-requires
remove-number-requires t c =
    let n = c.in-Some.top.value in
    let is = c.in-Some.ensures.taken in
    let parts = spanned_parts n.left.0 n.block n.right.0 c.args.self.now.0 is in
    rw c.deref_mut.ensures.value (
      omega (arith, left_shorter n.left.0 n.block n.right.0 c.args.self.now.0 is, c.decreases),
      (
        left_rises n.left.0 n.block n.right.0 c.args.self.now.0 is c.requires.rising,
        omega (arith, parts, c.requires.fits),
      ),
    )

pub returns-then-addr-block-clause-number : goal.returns-then-addr-block-clause-number
returns-then-addr-block-clause-number t c =
    let n = c.in-Some.top.value in
    let is = c.in-Some.ensures.taken in
    let less : c.args.addr < n.block.addr = rw (← c.deref.ensures) c.if-addr-block.true in
    rw (at_left n.left.0 n.block n.right.0 c.args.self.now.0 is c.args.addr c.requires.rising less)
    (rw c.deref_mut.ensures.value at c.remove-number.ensures.number)

pub returns-then-addr-block-clause-gap : goal.returns-then-addr-block-clause-gap
returns-then-addr-block-clause-gap t c =
    let n = c.in-Some.top.value in
    let is = c.in-Some.ensures.taken in
    let less : c.args.addr < n.block.addr = rw (← c.deref.ensures) c.if-addr-block.true in
    rw (without_left_is n.left.0 n.block n.right.0 c.args.self.now.0 is c.args.addr c.args.gap.now
    c.requires.rising less) (rw c.deref_mut.ensures.value at c.remove-number.ensures.gap)

pub returns-then-addr-block-clause-blocks : goal.returns-then-addr-block-clause-blocks
returns-then-addr-block-clause-blocks t c =
    let n = c.in-Some.top.value in
    let is = c.in-Some.ensures.taken in
    let less : c.args.addr < n.block.addr = rw (← c.deref.ensures) c.if-addr-block.true in
    rw (
      without_left_is n.left.0 n.block n.right.0 c.args.self.now.0 is c.args.addr c.args.gap.now c.requires.rising
          less,
      c.from.ensures,
      c.settled.ensures.blocks,
      c.remove-number.ensures.blocks,
      c.deref_mut.ensures.value,
    ) refl

pub remove-number-requires-then-block-addr : goal.remove-number-requires-then-block-addr
remove-number-requires-then-block-addr t c =
    let n = c.in-Some.top.value in
    let is = c.in-Some.ensures.taken in
    let parts = spanned_parts n.left.0 n.block n.right.0 c.args.self.now.0 is in
    rw c.deref_mut-node.ensures.value (
      omega (arith, right_shorter n.left.0 n.block n.right.0 c.args.self.now.0 is, c.decreases),
      (
        right_rises n.left.0 n.block n.right.0 c.args.self.now.0 is c.requires.rising,
        omega (arith, parts, c.requires.fits),
      ),
    )

pub returns-then-block-addr-clause-number : goal.returns-then-block-addr-clause-number
returns-then-block-addr-clause-number t c =
    let n = c.in-Some.top.value in
    let is = c.in-Some.ensures.taken in
    let more : n.block.addr < c.args.addr = rw (← c.deref.ensures) c.if-block-addr.true in
    rw (at_right n.left.0 n.block n.right.0 c.args.self.now.0 is c.args.addr c.requires.rising more)
    (rw c.deref_mut-node.ensures.value at c.remove-number-then-block-addr.ensures.number)

pub returns-then-block-addr-clause-gap : goal.returns-then-block-addr-clause-gap
returns-then-block-addr-clause-gap t c =
    let n = c.in-Some.top.value in
    let is = c.in-Some.ensures.taken in
    let more : n.block.addr < c.args.addr = rw (← c.deref.ensures) c.if-block-addr.true in
    rw (without_right_is n.left.0 n.block n.right.0 c.args.self.now.0 is c.args.addr c.args.gap.now
    c.requires.rising more) refl

pub returns-then-block-addr-clause-blocks : goal.returns-then-block-addr-clause-blocks
returns-then-block-addr-clause-blocks t c =
    let n = c.in-Some.top.value in
    let is = c.in-Some.ensures.taken in
    let more : n.block.addr < c.args.addr = rw (← c.deref.ensures) c.if-block-addr.true in
    rw (
      without_right_is n.left.0 n.block n.right.0 c.args.self.now.0 is c.args.addr c.args.gap.now
          c.requires.rising more,
      c.from-then-block-addr.ensures,
      c.settled-then-block-addr.ensures.blocks,
      c.remove-number-then-block-addr.ensures.blocks,
      c.remove-number-then-block-addr.ensures.gap,
      c.deref_mut-node.ensures.value,
    ) refl

pub overflow_add-block : goal.overflow_add-block
overflow_add-block t c =
    let n = c.in-Some.top.value in
    let is = c.in-Some.ensures.taken in
    let parts = spanned_parts n.left.0 n.block n.right.0 c.args.self.now.0 is in
    rw c.deref.ensures (omega (arith, parts, c.requires.fits))

pub grow_last-requires : goal.grow_last-requires
grow_last-requires t c =
    let n = c.in-Some.top.value in
    let is = c.in-Some.ensures.taken in
    let parts = spanned_parts n.left.0 n.block n.right.0 c.args.self.now.0 is in
    rw (c.deref.ensures, c.deref_mut-2.ensures.value)
    (record { fits = omega (arith, parts, c.requires.fits) })

pub returns-clause-number : goal.returns-clause-number
returns-clause-number t c =
    let n = c.in-Some.top.value in
    let is = c.in-Some.ensures.taken in
    let same : n.block.addr ≡ c.args.addr = rw (← c.deref.ensures)
    (omega (arith, c.if-addr-block.false, c.if-block-addr.false)) in
    rw (at_here n.left.0 n.block n.right.0 c.args.self.now.0 is c.args.addr c.requires.rising same, c.deref.ensures)
    refl

pub returns-clause-gap : goal.returns-clause-gap
returns-clause-gap t c =
    let n = c.in-Some.top.value in
    let is = c.in-Some.ensures.taken in
    let same : n.block.addr ≡ c.args.addr = rw (← c.deref.ensures)
    (omega (arith, c.if-addr-block.false, c.if-block-addr.false)) in
    rw (
      without_here_is n.left.0 n.block n.right.0 c.args.self.now.0 is c.args.addr c.args.gap.now c.requires.rising
          same,
      c.grow_last.ensures.gap,
      c.deref.ensures,
      c.deref_mut-2.ensures.value,
    ) refl

pub returns-clause-blocks : goal.returns-clause-blocks
returns-clause-blocks t c =
    let n = c.in-Some.top.value in
    let is = c.in-Some.ensures.taken in
    let same : n.block.addr ≡ c.args.addr = rw (← c.deref.ensures)
    (omega (arith, c.if-addr-block.false, c.if-block-addr.false)) in
    rw (
      without_here_is n.left.0 n.block n.right.0 c.args.self.now.0 is c.args.addr c.args.gap.now c.requires.rising
          same,
      c.joined.ensures.blocks,
      c.into_inner-left.ensures,
      c.grow_last.ensures.blocks,
      c.deref.ensures,
      c.deref_mut-2.ensures.value,
    ) refl

pub settled-requires-clause-low : goal.settled-requires-clause-low
settled-requires-clause-low t c =
    let balanced = c.in-Some.ensures.balanced in
    let shorter = rw c.deref_mut.ensures.value at c.remove-number.ensures.height in
    rw c.deref_mut.ensures.value (omega (arith, balanced.height, balanced.fits, shorter))

pub settled-requires-then-block-addr-clause-low :
    goal.settled-requires-then-block-addr-clause-low
settled-requires-then-block-addr-clause-low t c =
    let balanced = c.in-Some.ensures.balanced in
    let shorter = rw c.deref_mut-node.ensures.value at
    c.remove-number-then-block-addr.ensures.height in
    rw c.deref_mut-node.ensures.value (omega (arith, balanced.height, balanced.fits, shorter))
