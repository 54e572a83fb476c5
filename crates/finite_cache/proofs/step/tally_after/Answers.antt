use Rattle.std.proofs.Common.{arith, rules}
use Rattle.finite_cache.specs.Laws.Fits.{sum-value}
use Rattle.finite_cache.proofs.step.tally_after.Goals as goal

pub overflow_add-result : goal.overflow_add-result
overflow_add-result c =
    let least = sum-value (λ w. w.bounded) c.args.rows.now.entries c.args.line
    c.in-Some.tally.now (search rules) in
    omega (arith, least, c.one_if.ensures.small, c.requires.bounded, c.requires.early)

pub overflow_add-result-in-Some : goal.overflow_add-result-in-Some
overflow_add-result-in-Some c =
    let least = sum-value (λ w. w.unbounded) c.args.rows.now.entries c.args.line
    c.in-Some.tally.now (search rules) in
    omega (arith, least, c.one_if-in-Some.ensures.small, c.requires.unbounded, c.requires.early)
