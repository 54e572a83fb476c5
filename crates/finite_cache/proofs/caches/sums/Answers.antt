use Rattle.std.proofs.Common.{◌+◌, arith}
use Rattle.finite_cache.specs.Laws.Fits.{sum-more, sum-within}
use Rattle.finite_cache.proofs.caches.sums.Goals as goal

pub overflow_add-bounded : goal.overflow_add-bounded
overflow_add-bounded c =
    let es = c.args.rows.now.entries in
    let more = sum-more (λ w. w.bounded) es c.loop-index.index c.tally_at-tally.result
    c.tally_at-tally.ensures in
    let within = sum-within (λ w. w.bounded) es (c.loop-index.index + 1) in
    omega (arith, more, within, c.loop-index.invariant.bounded, c.requires.bounded, c.ranges.most.fits)

pub overflow_add-unbounded : goal.overflow_add-unbounded
overflow_add-unbounded c =
    let es = c.args.rows.now.entries in
    let more = sum-more (λ w. w.unbounded) es c.loop-index.index c.tally_at-tally.result
    c.tally_at-tally.ensures in
    let within = sum-within (λ w. w.unbounded) es (c.loop-index.index + 1) in
    omega (arith, more, within, c.loop-index.invariant.unbounded, c.requires.unbounded, c.ranges.most.fits)

pub loop-index-preserved : goal.loop-index-preserved
loop-index-preserved c =
    let es = c.args.rows.now.entries in
    let b = sum-more (λ w. w.bounded) es c.loop-index.index c.tally_at-tally.result
    c.tally_at-tally.ensures in
    let u = sum-more (λ w. w.unbounded) es c.loop-index.index c.tally_at-tally.result
    c.tally_at-tally.ensures in record {
      bounded = omega (arith, b, c.loop-index.invariant.bounded);
      unbounded = omega (arith, u, c.loop-index.invariant.unbounded);
    }
