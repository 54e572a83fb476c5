-- Regions of 2^32 bytes and more have at least as many bytes as any line.
use Rattle.std.proofs.Common.{◌^◌, ◌≤◌, arith}
use Rattle.std.proofs.Math.Pow.{pow_mono}
use Rattle.std.proofs.lemmas.Bool.Decides.{nat_tests}
use Rattle.trace_passes.proofs.wanted.is_within.Goals as goal

pub returns-then-near-ge32 : goal.returns-then-near-ge32
returns-then-near-ge32 c =
    let large : 32 ≤ c.args.near = grind (arith, nat_tests, c.if-near-ge32.true) in
    let more : 2 ^ 32 ≤ 2 ^ c.args.near = pow_mono large in
    grind (arith, nat_tests, more, c.ranges.size.fits)
