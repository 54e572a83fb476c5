use Rattle.std.proofs.Common.{ℕ, ◌≡◌, length, subst, arith}
use Rattle.layout_sweep.specs.Laws.Least.{IsFirstLeast, least-is}
use Rattle.layout_sweep.proofs.sweep.first_least.Goals as goal

pub returns : goal.returns
returns c =
    let upper = c.loop-i.auto.i-end (omega (arith, c.requires)) in
    let all : c.loop-i.i ≡ length c.args.counts.now =
    omega (arith, upper, c.loop-i-test.false) in
    least-is c.args.counts.now c.loop-i.least
    (subst (λ (n : ℕ). IsFirstLeast c.args.counts.now n c.loop-i.least) all c.loop-i.invariant)
